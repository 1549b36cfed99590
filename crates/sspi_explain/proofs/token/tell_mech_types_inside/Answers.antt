use Rattle.std.proofs.Common.{rules}
use Rattle.sspi_explain.specs.Token.{mech_types_field}
use Rattle.sspi_explain.proofs.token.tell_mech_types_inside.Goals as goal

pub returns : goal.returns
unfolding mech_types_field
returns c = (c.in_ok-tell_mechs.ensures.0, search rules)
