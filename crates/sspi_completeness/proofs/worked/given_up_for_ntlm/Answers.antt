use Rattle.std.proofs.Common.{refl}
use Rattle.sspi_completeness.specs.Worked.{given_up_for_ntlm}
use Rattle.sspi_completeness.proofs.WorkedMatches.{realm_parsed, given_up_by}
use Rattle.sspi_completeness.proofs.worked.given_up_for_ntlm.Goals as goal

pub exchange-requires : goal.exchange-requires
exchange-requires c = rw realm_parsed refl

pub returns : goal.returns
returns c =
    c.exchange.ensures given_up_for_ntlm 5 refl realm_parsed refl refl refl refl refl c.client_with_kerberos-client.ensures
    c.server_with_ntlm_alone-server.ensures
    (given_up_by c.realm_kdc.result c.realm_kdc.ensures)
