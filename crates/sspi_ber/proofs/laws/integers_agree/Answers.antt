use Rattle.sspi_ber.proofs.Agreement.{integer_again}
use Rattle.sspi_ber.proofs.laws.integers_agree.Goals as goal

pub returns-clause-again : goal.returns-clause-again
returns-clause-again c = integer_again
