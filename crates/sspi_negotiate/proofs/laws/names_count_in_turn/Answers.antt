use Rattle.sspi_negotiate.proofs.InTurn.{in_turn_is}
use Rattle.sspi_negotiate.proofs.laws.names_count_in_turn.Goals as goal

pub returns : goal.returns
returns c = in_turn_is
