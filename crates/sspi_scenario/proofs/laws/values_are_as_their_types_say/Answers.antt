use Rattle.sspi_scenario.proofs.ValueLaws.{scenario_holds}
use Rattle.sspi_scenario.proofs.laws.values_are_as_their_types_say.Goals as goal

pub returns : goal.returns
returns c = scenario_holds
