use Rattle.std.proofs.Common.{subst}
use Rattle.sspi_scenario.specs.declared.scenario.Scenario.{Scenario}
use Rattle.sspi_program.specs.declared.command.Task.TheVariants.{Early}
use Rattle.sspi_program.specs.Telling.{Conducts}
use Rattle.sspi_program.proofs.words.early.early.Goals as goal

pub returns-in-Ok-policy_of : goal.returns-in-Ok-policy_of
returns-in-Ok-policy_of c held =
    subst (λ (s : Scenario). Conducts Early s c.told.result) c.in-Ok.ensures.scenario
    (c.told.ensures (c.in-Ok.ensures.exchange held) c.in-Ok-policy_of.ensures)
