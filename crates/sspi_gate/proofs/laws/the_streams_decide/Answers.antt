use Rattle.sspi_gate.proofs.Decided.{streams_decide}
use Rattle.sspi_gate.proofs.laws.the_streams_decide.Goals as goal

pub returns : goal.returns
returns c = streams_decide
