use Rattle.sspi_outside.proofs.ClientRuns.{first_stepped}
use Rattle.sspi_outside.proofs.course_laws.first_is_stepped_as_told.Goals as goal

pub returns : goal.returns
returns c = first_stepped
