use Rattle.sspi_negotiate.proofs.Passing.{passed}
use Rattle.sspi_negotiate.specs.Plan.{Goes}
use Rattle.sspi_negotiate.specs.declared.state.NegotiateState.TheVariants as states
use Rattle.sspi_types.specs.declared.security_status.SecurityStatus.TheVariants as statuses
use Rattle.std.proofs.Common.{[]}
use Rattle.sspi_negotiate.proofs.negotiate.Negotiate.verify_last.Goals as goal

pub returns-clause-step : goal.returns-clause-step
returns-clause-step g c = passed c.in_ok-verify.ensures.step
    (λ v. Goes (record v { state = states.Ok }) (record { status = statuses.Ok; output = [] })) c.end.ensures.step
