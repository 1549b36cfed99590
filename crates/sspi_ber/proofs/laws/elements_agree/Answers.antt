use Rattle.sspi_ber.proofs.Agreement.{element_again}
use Rattle.sspi_ber.proofs.laws.elements_agree.Goals as goal

pub returns-clause-again : goal.returns-clause-again
returns-clause-again c = element_again
