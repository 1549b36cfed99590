use Rattle.std.proofs.Common.{◌≡◌, ℕ, refl, arith, rules, subst}
use Rattle.std.specs.List.{list_any}
use Rattle.std.specs.Prelude.{false, is_some}
use Rattle.sspi_credssp.specs.Context.{either}
use Rattle.sspi_delegate.specs.Chain.{kdc_calls}
use Rattle.sspi_seats.specs.Sessions.{AreVisited}
use Rattle.sspi_seats.proofs.Seating.{rest_over}
use Rattle.sspi_seats.proofs.sessions.Sessions.serve.Goals as goal

pub loop-turn-init : goal.loop-turn-init
loop-turn-init g c cames most seated = seated.visited

pub loop-turn-preserved : goal.loop-turn-preserved
loop-turn-preserved g c cames most seated =
    c.in_ok-serve_round.ensures cames c.loop-turn.turn refl (c.loop-turn.invariant cames most seated)

pub returns-then-not-runs : goal.returns-then-not-runs
returns-then-not-runs g c cames most seated =
    let m = either g.N.Mechanism.REQUESTS g.N.Mechanism.meaning g.K.Mechanism.meaning in
    let p = g.C.CredentialsProxy.meaning in
    let k = kdc_calls g.D.Kdc.told g.D.Kdc.asked g.D.Kdc.faults in
    let none : list_any (λ guest. is_some guest.next) c.loop-turn.self.guests.items ≡ false = search rules in
    rest_over m p k cames c.loop-turn.turn c.args.limit c.loop-turn.self (c.loop-turn.invariant cames most seated)
    (omega (arith, c.loop-turn-test.true)) none

pub returns : goal.returns
returns g c cames most seated =
    let m = either g.N.Mechanism.REQUESTS g.N.Mechanism.meaning g.K.Mechanism.meaning in
    let p = g.C.CredentialsProxy.meaning in
    let k = kdc_calls g.D.Kdc.told g.D.Kdc.asked g.D.Kdc.faults in
    let spent : c.loop-turn.turn ≡ c.args.limit = search rules in
    subst (λ (n : ℕ). AreVisited m p k cames n 0 c.loop-turn.self) spent (c.loop-turn.invariant cames most seated)
