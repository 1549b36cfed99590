use Rattle.sspi_negotiate.proofs.Passing.{passed}
use Rattle.sspi_negotiate.specs.Client.{verified}
use Rattle.sspi_negotiate.proofs.negotiate.Negotiate.verify_and_end.Goals as goal

pub returns-clause-step : goal.returns-clause-step
returns-clause-step g c = passed c.in_ok-verify.ensures.step (λ v. verified c.args.complete v c.args.token) c.end_verified.ensures.step
