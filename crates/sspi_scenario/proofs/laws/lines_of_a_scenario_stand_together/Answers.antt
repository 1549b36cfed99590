use Rattle.sspi_scenario.proofs.ScenarioLaws.{apart}
use Rattle.sspi_scenario.proofs.laws.lines_of_a_scenario_stand_together.Goals as goal

pub returns : goal.returns
returns c = apart
