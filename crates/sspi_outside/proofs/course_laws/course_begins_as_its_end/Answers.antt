use Rattle.sspi_outside.proofs.Begins.{course_begins}
use Rattle.sspi_outside.proofs.course_laws.course_begins_as_its_end.Goals as goal

pub returns : goal.returns
returns c = course_begins
