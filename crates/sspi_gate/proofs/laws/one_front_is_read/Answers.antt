use Rattle.sspi_framing.proofs.Fronts.{one_front}
use Rattle.sspi_gate.proofs.laws.one_front_is_read.Goals as goal

pub returns : goal.returns
returns c = one_front
