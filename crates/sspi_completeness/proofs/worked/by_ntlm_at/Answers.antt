use Rattle.std.proofs.Common.{refl, arith}
use Rattle.sspi_completeness.specs.Worked.{Example, ntlm_example}
use Rattle.sspi_completeness.proofs.WorkedEnds.{of_each}
use Rattle.sspi_completeness.proofs.WorkedMatches.{ann_parsed, ntlm_matches}
use Rattle.sspi_completeness.proofs.worked.by_ntlm_at.Goals as goal

pub exchange-requires : goal.exchange-requires
exchange-requires c = rw ann_parsed refl

pub returns : goal.returns
returns c versions takes takes2 =
    let x : Example = ntlm_example c.args.delegation c.args.client_version c.args.server_version c.args.least in
    c.exchange.ensures x 3 refl ann_parsed refl refl refl refl refl c.ntlm_client-client.ensures c.ntlm_server-server.ensures
    (of_each _ c.realm_kdc.result (λ kdc.
    ntlm_matches _ _ c.args.delegation c.args.client_version c.args.server_version c.args.least versions takes2 takes (omega arith)
    (omega arith)))
