use Rattle.std.proofs.Common.{◌∙◌}
use Rattle.sspi_channel.proofs.Said.{said}
use Rattle.sspi_channel.proofs.ended.end_scenario.Goals as goal

pub returns-in-Server : goal.returns-in-Server
returns-in-Server g c =
    rw c.in-Server.is (
      c.serve_scenario-answer.result,
      c.serve_scenario-answer.ensures,
      said c.serve_line.result _ _ _ c.serve_line.ensures c.say.ensures,
      c.without.ensures ∙ c.serve_status-status.ensures,
    )

pub returns-in-Client : goal.returns-in-Client
returns-in-Client g c =
    rw c.in-Client.is (
      c.connect_scenario-answer.result,
      c.connect_scenario-answer.ensures,
      said c.connect_line.result _ _ _ c.connect_line.ensures c.say-in-Client.ensures,
      c.connect_status.ensures,
    )
