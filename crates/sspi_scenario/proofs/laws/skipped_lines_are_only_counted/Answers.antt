use Rattle.sspi_scenario.proofs.ScenarioLaws.{skip-ok, skip-fault}
use Rattle.sspi_scenario.proofs.laws.skipped_lines_are_only_counted.Goals as goal

pub returns : goal.returns
returns c = record { scenario = skip-ok; fault = skip-fault }
