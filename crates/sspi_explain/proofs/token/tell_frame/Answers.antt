use Rattle.std.proofs.Common.{rules}
use Rattle.sspi_explain.specs.Token.{frame_told}
use Rattle.sspi_explain.proofs.token.tell_frame.Goals as goal

pub returns-then-eq : goal.returns-then-eq
unfolding frame_told
returns-then-eq c = (c.in_ok-mech.mech.now, search rules)
