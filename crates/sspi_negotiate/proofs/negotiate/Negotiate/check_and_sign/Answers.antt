use Rattle.sspi_negotiate.proofs.Passing.{passed, stopped}
use Rattle.sspi_negotiate.specs.Rows.{completes_signed}
use Rattle.std.proofs.lemmas.Result.{err_from_is_err_and}
use Rattle.sspi_negotiate.proofs.negotiate.Negotiate.check_and_sign.Goals as goal

pub returns-in_err-check-clause-step : goal.returns-in_err-check-clause-step
returns-in_err-check-clause-step g c = let p = err_from_is_err_and c.from_residual.result c.from_residual.ensures.1 in rw (p.1, p.2)
    (stopped c.in_err-check.ensures.step _)

pub returns-clause-step : goal.returns-clause-step
returns-clause-step g c = passed c.in_ok-check.ensures.step (λ v. completes_signed v c.args.token) c.complete_signed.ensures.step
