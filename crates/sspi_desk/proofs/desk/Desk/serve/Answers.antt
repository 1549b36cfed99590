use Rattle.std.proofs.Common.{◌≡◌, Some, subst, sym, refl}
use Rattle.std.specs.Prelude.{IsSome, nat_eq}
use Rattle.std.specs.Map.{lookup}
use Rattle.sspi_credssp.specs.declared.context.SspiContext.{SspiContext}
use Rattle.sspi_credssp.specs.Context.{either}
use Rattle.sspi_desk.specs.Desk.{DeskView, Serves}
use Rattle.sspi_desk.proofs.Kept.{serves_one}
use Rattle.sspi_desk.proofs.desk.Desk.serve.Goals as goal

pub returns : goal.returns
returns g c =
    let m = either g.N.Mechanism.REQUESTS g.N.Mechanism.meaning g.K.Mechanism.meaning in
    let inside = c.self.inside in
    let new = c.get_mut.follows.lender c.answer.new.server in
    let holds = c.get_mut.follows.holds c.answer.new.server in
    let found : lookup (nat_eq c.args.session) inside.sessions.entries ≡ Some c.in-Some.server.now = sym c.in-Some.ensures.value in
    subst (λ (old : DeskView (SspiContext g.row.N.Denot g.row.K.Denot) g.row.C.Denot).
    Serves m g.C.CredentialsProxy.meaning c.args.session c.args.bytes.now c.answer.result old
    (record { limit = inside.limit; admitted = inside.admitted; kept = new.entries })) c.self.view_is
    (serves_one m g.C.CredentialsProxy.meaning c.in-Some.server.now c.answer.new.server c.args.session c.args.bytes.now c.answer.result
    inside.limit inside.admitted inside.sessions.entries new.entries found c.answer.ensures holds.2
    (holds.3 (subst IsSome (sym found) refl)).0)
