use Rattle.std.proofs.Common.{append_assoc}
use Rattle.sspi_report.proofs.outcome.delegated_line.Goals as goal

pub returns : goal.returns
returns c =
    rw (c.in_ok-text.ensures.ok, c.inner-user.ensures.text, c.as_str-password.ensures)
    (simp append_assoc)
