use Rattle.std.proofs.Common.{rules}
use Rattle.sspi_explain.specs.Token.{init_told}
use Rattle.sspi_explain.proofs.token.tell_init.Goals as goal

pub returns : goal.returns
unfolding init_told
returns c = (c.in_ok-tell_init_fields.ensures.0, search rules)
