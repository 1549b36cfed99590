use Rattle.sspi_report.proofs.SummaryLines.{lines_joined}
use Rattle.sspi_report.proofs.summary.push_counts.Goals as goal

pub returns : goal.returns
returns c =
    lines_joined _ _ _ _ _ _ _ _ _ _ _ _ _ _ _ _ _ _ _ c.in_ok-push_count.ensures c.in_ok-push_count-2.ensures
    c.in_ok-push_count-3.ensures c.in_ok-push_count-4.ensures c.in_ok-push_count-5.ensures c.in_ok-push_count-6.ensures
    c.in_ok-push_count-7.ensures c.in_ok-push_count-8.ensures c.in_ok-push_count-9.ensures
