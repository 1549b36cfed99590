use Rattle.std.proofs.Common.{◌≡◌, ℕ, List, subst}
use Rattle.std.specs.Prelude.{IfOk}
use Rattle.sspi_completeness.proofs.worked.exchange.Goals as goal

pub returns : goal.returns
returns c x messages key_is name_is password_is delegation_is client_version_is server_version_is least_is client_is server_is matches =
    c.run.ensures x messages
    (c.client_of-client.ensures x (subst (λ (key : List ℕ). IfOk c.from_slice.result (λ copied. copied.items ≡ key)) key_is
    c.from_slice.ensures.items)
    (c.who.ensures x.identity name_is password_is) delegation_is client_version_is least_is client_is)
    (c.server_of-server.ensures x (subst (λ (key : List ℕ). IfOk c.from_slice-2.result (λ copied. copied.items ≡ key)) key_is
    c.from_slice-2.ensures.items)
    (c.who-2.ensures x.identity name_is password_is) server_version_is least_is server_is)
    matches
