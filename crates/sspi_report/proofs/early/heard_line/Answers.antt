use Rattle.std.proofs.Common.{append_assoc}
use Rattle.sspi_report.proofs.early.heard_line.Goals as goal

pub returns : goal.returns
returns c = rw (c.in_ok-text.ensures.ok, c.result_name-told.ensures, c.result_name-heard.ensures) (simp append_assoc)
