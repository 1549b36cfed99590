use Rattle.std.proofs.Common.{refl}
use Rattle.sspi_negotiate.proofs.Tokens.{unread, unread_told, read_told}
use Rattle.sspi_tokens.specs.Reading.{init_of}
use Rattle.sspi_negotiate.specs.Server.{at_initial}
use Rattle.sspi_mech.specs.Calls.{accept_args}
use Rattle.sspi_negotiate.specs.Values.{values_of}
use Rattle.sspi_mech.specs.Answered.{answered}
use Rattle.sspi_negotiate.specs.Does.{told}
use Rattle.std.proofs.lemmas.Result.{err_from_is_err_and}
use Rattle.sspi_negotiate.proofs.negotiate.Negotiate.read_init.Goals as goal

pub returns-in_err-token-clause-step : goal.returns-in_err-token-clause-step
returns-in_err-token-clause-step g c = let p = err_from_is_err_and c.from_residual.result c.from_residual.ensures.1 in rw (p.1, p.2)
    (unread (init_of c.args.args.now.input.now)
    (λ o. at_initial o (values_of c.args.self.now) (accept_args c.args.args.now)) _ refl c.in_err-token.ensures)

pub returns-in_err-token-clause-exact : goal.returns-in_err-token-clause-exact
returns-in_err-token-clause-exact g c = let p = err_from_is_err_and c.from_residual.result c.from_residual.ensures.1 in rw (p.1, p.2)
    (unread_told (init_of c.args.args.now.input.now) _ c.in_err-token.ensures)

pub returns-clause-exact : goal.returns-clause-exact
returns-clause-exact g c = read_told (init_of c.args.args.now.input.now) _ (told (answered c.read_list.result)) c.in_ok-token.ensures
