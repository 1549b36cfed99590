use Rattle.std.proofs.Common.{Some, rules}
use Rattle.sspi_explain.specs.Request.{nego_tokens_told}
use Rattle.sspi_explain.proofs.request.tell_nego_tokens.Goals as goal

pub returns-in_ok-tell_token_inside-in-Some : goal.returns-in_ok-tell_token_inside-in-Some
unfolding nego_tokens_told
returns-in_ok-tell_token_inside-in-Some c =
    (Some c.in_ok-tell_token_inside-in-Some.ensures.0, search rules)
