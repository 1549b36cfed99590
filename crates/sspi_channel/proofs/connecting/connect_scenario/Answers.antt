use Rattle.sspi_channel.proofs.Coming.{refused_comes}
use Rattle.sspi_channel.specs.Answers.{of_a_scenario}
use Rattle.sspi_channel.proofs.connecting.connect_scenario.Goals as goal

pub returns-in-Ok : goal.returns-in-Ok
returns-in-Ok g c = rw c.without.ensures (of_a_scenario c.in-Ok.scenario c.in-Ok.ensures c.connect_as-connected.ensures)

pub returns-in-Err : goal.returns-in-Err
returns-in-Err g c = rw c.text_error.ensures (refused_comes _ c.args.text.now _ _ c.in-Err.error c.in-Err.ensures)
