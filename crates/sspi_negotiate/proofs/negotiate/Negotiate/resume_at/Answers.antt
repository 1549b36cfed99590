use Rattle.std.proofs.Common.{refl}
use Rattle.sspi_negotiate.proofs.Beginning.{on_err, fell_past}
use Rattle.sspi_negotiate.proofs.negotiate.Negotiate.resume_at.Goals as goal

pub returns-in-Opening-clause-held : goal.returns-in-Opening-clause-held
returns-in-Opening-clause-held g c = rw (← c.self.view_is) (λ waits. on_err c.resume_opening.result
    (fell_past (λ fell. fell) (record { hand = refl; packages = refl })) c.resume_opening.ensures.held)
