use Rattle.sspi_report.proofs.PlayLines.{standing_joined}
use Rattle.sspi_report.proofs.play.push_standing.Goals as goal

pub returns : goal.returns
returns c =
    standing_joined _ _ _ _ _ _ _ c.push_identity.result c.in_ok-push_end.ensures c.in_ok-push_end-2.ensures c.push_identity.ensures
