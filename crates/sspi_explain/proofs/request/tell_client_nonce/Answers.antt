use Rattle.std.proofs.Common.{Some, rules}
use Rattle.sspi_explain.specs.Request.{client_nonce_told}
use Rattle.sspi_explain.proofs.request.tell_client_nonce.Goals as goal

pub returns-in_ok-content-in-Some : goal.returns-in_ok-content-in-Some
unfolding client_nonce_told
returns-in_ok-content-in-Some c = (Some c.in_ok-nonce-in-Some.nonce.now, search rules)
