use Rattle.sspi_outside.proofs.ClientRuns.{answer_stepped, confirmation_verified}
use Rattle.sspi_outside.proofs.course_laws.answer_is_stepped_as_told.Goals as goal

pub returns-clause-step : goal.returns-clause-step
returns-clause-step c = answer_stepped

pub returns-clause-last : goal.returns-clause-last
returns-clause-last c = confirmation_verified
