use Rattle.std.proofs.Common.{rules}
use Rattle.sspi_explain.proofs.request.tell_token_inside.Goals as goal

pub returns : goal.returns
returns c = (c.in_ok-content.content.now, search rules)
