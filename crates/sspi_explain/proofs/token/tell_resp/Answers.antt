use Rattle.std.proofs.Common.{rules}
use Rattle.sspi_explain.specs.Token.{resp_told}
use Rattle.sspi_explain.proofs.token.tell_resp.Goals as goal

pub returns : goal.returns
unfolding resp_told
returns c = (c.in_ok-tell_resp_fields.ensures.0, search rules)
