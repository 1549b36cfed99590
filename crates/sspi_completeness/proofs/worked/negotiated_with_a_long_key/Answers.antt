use Rattle.std.proofs.Common.{refl}
use Rattle.sspi_completeness.specs.Worked.{negotiated_with_a_long_key}
use Rattle.sspi_completeness.proofs.WorkedMatches.{realm_parsed, long_key_matches}
use Rattle.sspi_completeness.proofs.WorkedEnds.{of_each}
use Rattle.sspi_completeness.proofs.worked.negotiated_with_a_long_key.Goals as goal

pub exchange-requires : goal.exchange-requires
exchange-requires c = rw realm_parsed refl

pub returns : goal.returns
returns c =
    c.exchange.ensures negotiated_with_a_long_key 4 refl realm_parsed refl refl refl refl refl c.client_with_ntlm-client.ensures
    c.server_with_ntlm-server.ensures
    (of_each _ c.realm_kdc.result (λ kdc. long_key_matches _ _))
