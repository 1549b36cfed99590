use Rattle.std.proofs.Common.{◌≡◌, Ok, subst}
use Rattle.sspi_scenario.proofs.ValueLaws.{scenario_holds}
use Rattle.sspi_scenario.specs.Scenario.{scenario_of}
use Rattle.sspi_scenario.specs.declared.purpose.Purpose.{Purpose}
use Rattle.sspi_program.proofs.Conducting.{carries_out}
use Rattle.sspi_program.proofs.run.carry_out.Goals as goal

pub returns-in-Ok : goal.returns-in-Ok
returns-in-Ok c =
    let parsed = subst (λ (purpose : Purpose). scenario_of purpose c.args.text.now ≡ Ok c.in-Ok.scenario) c.purpose.ensures
    c.in-Ok.ensures in
    carries_out c.args.task c.args.text.now c.in-Ok.scenario c.conduct.result parsed
    (c.conduct.ensures (scenario_holds _ c.args.text.now c.in-Ok.scenario parsed))
