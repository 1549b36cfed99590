use Rattle.std.proofs.Common.{Some, rules}
use Rattle.sspi_explain.proofs.token.tell_mech_types.Goals as goal

pub returns : goal.returns
returns c = (Some c.in_ok-tell_mech_types_inside.ensures.0, search rules)
