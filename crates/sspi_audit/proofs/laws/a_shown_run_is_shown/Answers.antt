use Rattle.sspi_audit.proofs.Back.{shown_back}
use Rattle.sspi_audit.proofs.InRuns.{is_shown}
use Rattle.sspi_audit.proofs.laws.a_shown_run_is_shown.Goals as goal

pub returns-clause-shown : goal.returns-clause-shown
returns-clause-shown c turns log run = is_shown turns log run

pub returns-clause-run : goal.returns-clause-run
returns-clause-run c turns log run = shown_back turns log run
