use Rattle.std.proofs.Common.{Some, rules, refl}
use Rattle.sspi_types.specs.declared.security_status.SecurityStatus.TheVariants as statuses
use Rattle.sspi_tokens.specs.Spelling.{spelled_init}
use Rattle.sspi_negotiate.specs.declared.state.NegotiateState.TheVariants as states
use Rattle.sspi_negotiate.specs.Client.{offers}
use Rattle.sspi_negotiate.specs.Pick.{offered}
use Rattle.sspi_negotiate.specs.Rows.{written}
use Rattle.sspi_negotiate.specs.Values.{values_of}
use Rattle.sspi_negotiate.proofs.Tokens.{unspelled}
use Rattle.std.proofs.lemmas.Result.{err_from_is_err_and}
use Rattle.sspi_negotiate.proofs.negotiate.Negotiate.offer.Goals as goal

pub returns-in_err-output-clause-step : goal.returns-in_err-output-clause-step
unfolding offers
returns-in_err-output-clause-step g c =
    let p = err_from_is_err_and c.from_residual-in_err-output.result c.from_residual-in_err-output.ensures.1 in
    let v = values_of c.args.self.now in
    let list = offered v.hand v.packages in
    rw (p.1, p.2) (unspelled (spelled_init (record { mech_types = Some list; mech_token = Some c.args.token }))
    (λ o. written o v (record v { state = states.InProgress; list = list }) statuses.ContinueNeeded) _ refl (search rules))
