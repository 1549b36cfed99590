use Rattle.sspi_tokens.specs.Reading.{targ_of}
use Rattle.sspi_negotiate.specs.Client.{at_verify_mic}
use Rattle.sspi_negotiate.specs.Values.{values_of}
use Rattle.sspi_negotiate.proofs.Tokens.{read}
use Rattle.sspi_negotiate.proofs.negotiate.Negotiate.confirm.Goals as goal

pub returns-clause-step : goal.returns-clause-step
returns-clause-step g c = rw (c.done.ensures) (read (targ_of c.args.args.now.input.now)
    (λ o. at_verify_mic o (values_of c.args.self.now)) _ c.in_ok-token.ensures c.confirm_by.ensures.step)
