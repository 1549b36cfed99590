use Rattle.sspi_negotiate.proofs.Passing.{passed_past, stopped_part}
use Rattle.sspi_negotiate.specs.Rows.{identifies, verifies}
use Rattle.sspi_negotiate.specs.Values.{values_of}
use Rattle.std.proofs.lemmas.Result.{err_from_is_err_and}
use Rattle.sspi_negotiate.proofs.negotiate.Negotiate.check.Goals as goal

pub returns-in_err-identify-clause-step : goal.returns-in_err-identify-clause-step
returns-in_err-identify-clause-step g c = let p = err_from_is_err_and c.from_residual.result c.from_residual.ensures.1 in rw (p.1, p.2)
    (stopped_part (identifies (values_of c.args.self.now))
    (verifies c.args.mic.now (values_of c.args.self.now)) c.in_err-identify.ensures.step)

pub returns-clause-step : goal.returns-clause-step
returns-clause-step g c = passed_past (identifies (values_of c.args.self.now))
    (verifies c.args.mic.now) _ c.in_ok-identify.ensures.step c.verify.ensures.step
