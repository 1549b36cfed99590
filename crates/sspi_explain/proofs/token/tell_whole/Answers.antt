use Rattle.std.proofs.Common.{Some, rules}
use Rattle.sspi_explain.specs.Token.{whole_field}
use Rattle.sspi_explain.proofs.token.tell_whole.Goals as goal

pub returns : goal.returns
unfolding whole_field
returns c = (Some c.in_ok-content.content.now, search rules)
