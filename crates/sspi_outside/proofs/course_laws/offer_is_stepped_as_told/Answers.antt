use Rattle.sspi_outside.proofs.ServerRuns.{offer_stepped}
use Rattle.sspi_outside.proofs.course_laws.offer_is_stepped_as_told.Goals as goal

pub returns : goal.returns
returns c = offer_stepped
