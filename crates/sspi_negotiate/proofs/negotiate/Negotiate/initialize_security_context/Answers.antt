use Rattle.std.proofs.Common.{rules, Ok, Err}
use Rattle.std.proofs.lemmas.Result.{err_from_is_err_and}
use Rattle.sspi_negotiate.proofs.Moved.{client_moves}
use Rattle.sspi_negotiate.proofs.negotiate.Negotiate.initialize_security_context.Goals as goal

pub returns-in_err-step-clause-step : goal.returns-in_err-step-clause-step
returns-in_err-step-clause-step g c = let p = err_from_is_err_and c.from_residual.result c.from_residual.ensures.1 in rw (p.1, p.2)
    (client_moves _ _ g.N.Mechanism.meaning g.K.Mechanism.meaning g.met.N.Mechanism.laws g.met.K.Mechanism.laws _ _ (Err _) _ c.is_named_by_ip-ip.result (search rules) c.in_err-step.ensures.step c.in_err-step.ensures.stays
    c.step.ensures.asked c.step.ensures.later c.step.ensures.kept
    c.in_err-step.ensures.begun c.in_err-step.ensures.exact)

pub returns-clause-step : goal.returns-clause-step
returns-clause-step g c = client_moves _ _ g.N.Mechanism.meaning g.K.Mechanism.meaning g.met.N.Mechanism.laws g.met.K.Mechanism.laws _ _ (Ok c.in_ok-step.field-0) _ c.is_named_by_ip-ip.result (search rules)
    c.in_ok-step.ensures.step
    c.in_ok-step.ensures.stays c.step.ensures.asked c.step.ensures.later c.step.ensures.kept
    c.in_ok-step.ensures.begun c.in_ok-step.ensures.exact
