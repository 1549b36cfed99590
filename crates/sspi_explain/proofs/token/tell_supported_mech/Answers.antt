use Rattle.std.proofs.Common.{Some, rules}
use Rattle.sspi_explain.proofs.token.tell_supported_mech.Goals as goal

pub returns : goal.returns
returns c = (Some c.in_ok-tell_supported_mech_inside.field-0.now, search rules)
