use Rattle.std.proofs.Common.{refl}
use Rattle.sspi_completeness.specs.Worked.{negotiated_at_version_4}
use Rattle.sspi_completeness.proofs.WorkedMatches.{ann_parsed, version_4_matches}
use Rattle.sspi_completeness.proofs.WorkedEnds.{of_each}
use Rattle.sspi_completeness.proofs.worked.negotiated_at_version_4.Goals as goal

pub exchange-requires : goal.exchange-requires
exchange-requires c = rw ann_parsed refl

pub returns : goal.returns
returns c =
    c.exchange.ensures negotiated_at_version_4 4 refl ann_parsed refl refl refl refl refl c.client_with_ntlm-client.ensures
    c.server_with_ntlm-server.ensures
    (of_each _ c.realm_kdc.result (λ kdc. version_4_matches _ _))
