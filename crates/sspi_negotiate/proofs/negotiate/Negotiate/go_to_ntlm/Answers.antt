use Rattle.std.proofs.Common.{false, not}
use Rattle.sspi_negotiate.proofs.Passing.{passed}
use Rattle.sspi_negotiate.specs.Client.{answers}
use Rattle.sspi_mech.specs.Calls.{step_args}
use Rattle.sspi_negotiate.proofs.negotiate.Negotiate.go_to_ntlm.Goals as goal

pub returns-clause-step : goal.returns-clause-step
returns-clause-step g c = passed c.in_ok-take_ntlm.ensures.step
    (λ v. answers c.args.token (record v { packages = record v.packages { kerberos = false }; need = not c.args.guest })
    (step_args c.args.args.now)) c.answer_in_ntlm.ensures.step
