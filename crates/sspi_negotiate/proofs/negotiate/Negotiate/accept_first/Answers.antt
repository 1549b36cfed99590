use Rattle.std.proofs.Common.{rules}
use Rattle.sspi_negotiate.proofs.Follow.{accepted, not_accepted}
use Rattle.std.proofs.lemmas.Result.{err_from_is_err_and}
use Rattle.sspi_negotiate.proofs.negotiate.Negotiate.accept_first.Goals as goal

pub returns-in_err-step-clause-step : goal.returns-in_err-step-clause-step
returns-in_err-step-clause-step g c = let p = err_from_is_err_and c.from_residual.result c.from_residual.ensures.1 in rw (p.1, p.2)
    (not_accepted _ (search rules) (search rules))

pub returns-clause-step : goal.returns-clause-step
returns-clause-step g c = accepted c.accept_with.new.protocol c.in_ok-step.step (search rules) (search rules)
