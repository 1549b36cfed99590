use Rattle.std.proofs.Common.{refl}
use Rattle.sspi_negotiate.proofs.Tokens.{unread, read, unread_told, read_told}
use Rattle.sspi_tokens.specs.Reading.{targ_of}
use Rattle.sspi_negotiate.specs.Server.{at_progress}
use Rattle.sspi_mech.specs.Calls.{accept_args}
use Rattle.sspi_negotiate.specs.Values.{values_of}
use Rattle.sspi_mech.specs.Answered.{answered}
use Rattle.sspi_negotiate.specs.Does.{told}
use Rattle.std.proofs.lemmas.Result.{err_from_is_err_and}
use Rattle.sspi_negotiate.proofs.negotiate.Negotiate.read_response.Goals as goal

pub returns-in_err-token-clause-step : goal.returns-in_err-token-clause-step
returns-in_err-token-clause-step g c = let p = err_from_is_err_and c.from_residual.result c.from_residual.ensures.1 in rw (p.1, p.2)
    (unread (targ_of c.args.args.now.input.now)
    (λ o. at_progress o (values_of c.args.self.now) (accept_args c.args.args.now)) _ refl c.in_err-token.ensures)

pub returns-clause-step : goal.returns-clause-step
returns-clause-step g c = read (targ_of c.args.args.now.input.now)
    (λ o. at_progress o (values_of c.args.self.now) (accept_args c.args.args.now)) _ c.in_ok-token.ensures c.take_response.ensures.step

pub returns-in_err-token-clause-exact : goal.returns-in_err-token-clause-exact
returns-in_err-token-clause-exact g c = let p = err_from_is_err_and c.from_residual.result c.from_residual.ensures.1 in rw (p.1, p.2)
    (unread_told (targ_of c.args.args.now.input.now) _ c.in_err-token.ensures)

pub returns-clause-exact : goal.returns-clause-exact
returns-clause-exact g c = read_told (targ_of c.args.args.now.input.now) _ (told (answered c.take_response.result)) c.in_ok-token.ensures
