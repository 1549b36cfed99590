use Rattle.std.proofs.Common.{refl}
use Rattle.sspi_completeness.specs.Worked.{user_to_user}
use Rattle.sspi_completeness.proofs.WorkedMatches.{realm_parsed, user_to_user_by}
use Rattle.sspi_completeness.proofs.worked.user_to_user.Goals as goal

pub exchange-requires : goal.exchange-requires
exchange-requires c = rw realm_parsed refl

pub returns : goal.returns
returns c =
    c.exchange.ensures user_to_user 4 refl realm_parsed refl refl refl refl refl c.client_with_kerberos-client.ensures
    c.server_with_ticket-server.ensures
    (user_to_user_by c.realm_kdc.result c.realm_kdc.ensures)
