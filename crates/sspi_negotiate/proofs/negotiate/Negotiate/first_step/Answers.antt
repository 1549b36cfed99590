use Rattle.std.proofs.Common.{refl}
use Rattle.sspi_negotiate.proofs.Beginning.{on_err, fell_past}
use Rattle.sspi_negotiate.proofs.negotiate.Negotiate.first_step.Goals as goal

pub returns-clause-held : goal.returns-clause-held
returns-clause-held g c = rw (← c.self.view_is) (on_err c.open.result (fell_past (λ fell. fell) (record { hand = refl; packages = refl }))
    c.open.ensures.held)
