use Rattle.std.proofs.Common.{Some, rules}
use Rattle.sspi_explain.specs.Token.{inner_field}
use Rattle.sspi_explain.proofs.token.tell_octets.Goals as goal

pub returns : goal.returns
unfolding inner_field
returns c = (Some c.in_ok-content.content.now, search rules)
