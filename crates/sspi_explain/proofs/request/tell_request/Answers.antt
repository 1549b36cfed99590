use Rattle.std.proofs.Common.{rules}
use Rattle.sspi_explain.specs.Request.{request_told}
use Rattle.sspi_explain.proofs.request.tell_request.Goals as goal

pub returns : goal.returns
unfolding request_told
returns c = (c.in_ok-tell_body.ensures.0, search rules)
