use Rattle.sspi_audit.proofs.Runs.{run_is_shown}
use Rattle.sspi_audit.proofs.laws.delegation_is_shown.Goals as goal

pub returns : goal.returns
returns g c client client2 server server2 base log turns run =
    run_is_shown _ c.context_keeps_laws.ensures client client2 server server2 base log turns run
