use Rattle.sspi_outside.proofs.ServerRuns.{continuation_stepped, last_verified}
use Rattle.sspi_outside.proofs.course_laws.continuation_is_stepped_as_told.Goals as goal

pub returns-clause-step : goal.returns-clause-step
returns-clause-step c = continuation_stepped

pub returns-clause-last : goal.returns-clause-last
returns-clause-last c = last_verified
