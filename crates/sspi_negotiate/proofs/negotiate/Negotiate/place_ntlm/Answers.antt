use Rattle.sspi_negotiate.proofs.Passing.{passed}
use Rattle.sspi_negotiate.specs.Server.{placed}
use Rattle.sspi_mech.specs.Calls.{accept_args}
use Rattle.sspi_negotiate.proofs.negotiate.Negotiate.place_ntlm.Goals as goal

pub returns-clause-step : goal.returns-clause-step
returns-clause-step g c = passed c.in_ok-take_ntlm.ensures.step (λ v. placed c.args.token c.args.picked v (accept_args c.args.args.now))
    c.place.ensures.step
