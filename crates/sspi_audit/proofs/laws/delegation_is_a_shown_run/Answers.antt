use Rattle.sspi_audit.proofs.InRuns.{delegation_is_run}
use Rattle.sspi_audit.proofs.laws.delegation_is_a_shown_run.Goals as goal

pub returns : goal.returns
returns g c old new limit result fresh delegates =
    delegation_is_run _ c.context_keeps_laws.ensures _ old new limit result fresh delegates
