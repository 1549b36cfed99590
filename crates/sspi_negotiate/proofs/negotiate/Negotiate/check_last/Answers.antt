use Rattle.sspi_negotiate.proofs.Passing.{passed, stopped}
use Rattle.sspi_negotiate.specs.Plan.{Goes}
use Rattle.sspi_negotiate.specs.declared.state.NegotiateState.TheVariants as states
use Rattle.sspi_types.specs.declared.security_status.SecurityStatus.TheVariants as statuses
use Rattle.std.proofs.Common.{[]}
use Rattle.std.proofs.lemmas.Result.{err_from_is_err_and}
use Rattle.sspi_negotiate.proofs.negotiate.Negotiate.check_last.Goals as goal

pub returns-in_err-check-clause-step : goal.returns-in_err-check-clause-step
returns-in_err-check-clause-step g c = let p = err_from_is_err_and c.from_residual.result c.from_residual.ensures.1 in rw (p.1, p.2)
    (stopped c.in_err-check.ensures.step _)

pub returns-clause-step : goal.returns-clause-step
returns-clause-step g c = passed c.in_ok-check.ensures.step
    (λ v. Goes (record v { state = states.Ok }) (record { status = statuses.Ok; output = [] })) c.end.ensures.step
