use Rattle.std.proofs.Common.{◌≡◌, ◌+◌, ◌==◌, ◌<◌, ◌∙◌, arith, false, length, subst, sym}
use Rattle.std.proofs.lemmas.Bool.{eqb-false}
use Rattle.sspi_credssp.specs.declared.context.SspiContext.{SspiContext}
use Rattle.sspi_desk.specs.Desk.{DeskView, IsAdmitted}
use Rattle.sspi_desk.proofs.Kept.{admitted_more}
use Rattle.sspi_desk.proofs.desk.Desk.admit.Goals as goal

pub returns-in-Ok : goal.returns-in-Ok
returns-in-Ok g c =
    let inside = c.self.inside in
    let apart : (length inside.sessions.entries == inside.limit) ≡ false =
    subst (λ (old : DeskView (SspiContext g.row.N.Denot g.row.K.Denot) g.row.C.Denot). (length old.kept == old.limit) ≡ false)
    (sym c.self.view_is) (sym c.is_full.ensures ∙ c.if-is_full.false) in
    let room : length inside.sessions.entries < inside.limit =
    omega (arith, eqb-false (length inside.sessions.entries) inside.limit apart, c.self.invariant.within) in
    subst (λ (old : DeskView (SspiContext g.row.N.Denot g.row.K.Denot) g.row.C.Denot). IsAdmitted c.args.server inside.admitted old
    (record { limit = inside.limit; admitted = inside.admitted + 1; kept = c.keep.new.sessions.entries })) c.self.view_is
    (admitted_more c.args.server inside.limit inside.admitted inside.sessions.entries c.keep.new.sessions.entries c.self.invariant room
    c.in-Ok.ensures.count c.in-Ok.ensures.kept)
