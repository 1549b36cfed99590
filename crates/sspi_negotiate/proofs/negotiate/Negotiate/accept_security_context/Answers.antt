use Rattle.std.proofs.Common.{Err}
use Rattle.std.proofs.lemmas.Result.{err_from_is_err_and}
use Rattle.sspi_negotiate.proofs.Moved.{accept_moves}
use Rattle.sspi_negotiate.proofs.negotiate.Negotiate.accept_security_context.Goals as goal

pub returns-in_err-accept_at-clause-step : goal.returns-in_err-accept_at-clause-step
returns-in_err-accept_at-clause-step g c = let p = err_from_is_err_and c.from_residual.result c.from_residual.ensures.1 in rw (p.1, p.2)
    (accept_moves _ _ g.N.Mechanism.meaning g.K.Mechanism.meaning g.met.N.Mechanism.laws g.met.K.Mechanism.laws _ _ (Err _) _ c.in_err-accept_at.ensures.step c.in_err-accept_at.ensures.stays
    c.in_err-accept_at.ensures.need c.accept_at.ensures.picked c.accept_at.ensures.configured c.in_err-accept_at.ensures.exact)

pub returns-clause-step : goal.returns-clause-step
returns-clause-step g c = accept_moves _ _ g.N.Mechanism.meaning g.K.Mechanism.meaning g.met.N.Mechanism.laws g.met.K.Mechanism.laws _ _ _ _ c.in_ok-accept_at.ensures.step c.in_ok-accept_at.ensures.stays
    c.in_ok-accept_at.ensures.need c.accept_at.ensures.picked c.accept_at.ensures.configured c.in_ok-accept_at.ensures.exact
