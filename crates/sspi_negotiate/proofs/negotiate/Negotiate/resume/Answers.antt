use Rattle.std.proofs.Common.{Ok, Err}
use Rattle.std.proofs.lemmas.Result.{err_from_is_err_and}
use Rattle.sspi_negotiate.proofs.Moved.{resume_moves, resume_falls}
use Rattle.sspi_negotiate.proofs.negotiate.Negotiate.resume.Goals as goal

pub returns-in_err-resume_at-clause-step : goal.returns-in_err-resume_at-clause-step
returns-in_err-resume_at-clause-step g c = let p = err_from_is_err_and c.from_residual.result c.from_residual.ensures.1 in rw (p.1, p.2)
    (resume_moves _ _ g.N.Mechanism.meaning g.K.Mechanism.meaning g.met.N.Mechanism.laws g.met.K.Mechanism.laws _ _ (Err _) _ c.in_err-resume_at.ensures.step c.in_err-resume_at.ensures.stays
    c.resume_at.ensures.resumed c.in_err-resume_at.ensures.held c.in_err-resume_at.ensures.exact)

pub returns-clause-step : goal.returns-clause-step
returns-clause-step g c = resume_moves _ _ g.N.Mechanism.meaning g.K.Mechanism.meaning g.met.N.Mechanism.laws g.met.K.Mechanism.laws _ _ (Ok c.in_ok-resume_at.field-0) _ c.in_ok-resume_at.ensures.step
    c.in_ok-resume_at.ensures.stays
    c.resume_at.ensures.resumed
    c.in_ok-resume_at.ensures.held c.in_ok-resume_at.ensures.exact

pub returns-clause-falls : goal.returns-clause-falls
returns-clause-falls g c = resume_falls _ _ g.N.Mechanism.meaning g.K.Mechanism.meaning g.met.N.Mechanism.laws g.met.K.Mechanism.laws _ _
    (Ok c.in_ok-resume_at.field-0) _ c.in_ok-resume_at.ensures.step
