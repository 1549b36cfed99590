use Rattle.std.proofs.Common.{sym}
use Rattle.sspi_program.proofs.run.exit_status.Goals as goal

pub returns-clause-runs : goal.returns-clause-runs
returns-clause-runs g c =
    record { conducted = c.run-conducted.result; status_is = sym c.status_of.ensures; runs = c.run-conducted.ensures.runs }
