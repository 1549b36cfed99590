use Rattle.sspi_scenario.proofs.ScenarioLaws.{fault-stays}
use Rattle.sspi_scenario.proofs.laws.a_fault_stays_whatever_follows.Goals as goal

pub returns : goal.returns
returns c = fault-stays
