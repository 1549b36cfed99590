use Rattle.sspi_framing.proofs.Fronts.{front_of, given_first}
use Rattle.sspi_gate.proofs.laws.a_front_is_what_is_read_first.Goals as goal

pub returns : goal.returns
returns c = record { given = given_first; taken = front_of }
