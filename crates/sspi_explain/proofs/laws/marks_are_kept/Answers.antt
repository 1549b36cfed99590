use Rattle.sspi_explain.proofs.Marks.{mark_kept}
use Rattle.sspi_explain.proofs.laws.marks_are_kept.Goals as goal

pub returns : goal.returns
returns c = mark_kept
