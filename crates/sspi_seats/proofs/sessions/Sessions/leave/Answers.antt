use Rattle.std.proofs.Common.{◌≡◌, ◌∷◌, [], ◌++◌, length, ap, subst, ◌∙◌, append_assoc, arith, rules}
use Rattle.std.specs.Vec.Iter.{into_iter_items}
use Rattle.sspi_credssp.specs.Context.{either}
use Rattle.sspi_delegate.specs.Chain.{kdc_calls}
use Rattle.sspi_seats.proofs.Lists.{front_is_all}
use Rattle.sspi_seats.proofs.Leaving.{HaveLeft, visited_kept, none_left, all_left, next_place, next_kept, next_numbered, more_left}
use Rattle.sspi_seats.proofs.sessions.Sessions.leave.Goals as goal

pub loop-guest-init : goal.loop-guest-init
loop-guest-init g c =
    let m = either g.N.Mechanism.REQUESTS g.N.Mechanism.meaning g.K.Mechanism.meaning in
    let p = g.C.CredentialsProxy.meaning in
    let k = kdc_calls g.D.Kdc.told g.D.Kdc.asked g.D.Kdc.faults in
    let gives = c.into_iter-guest-iterator.ensures.into_iter_gives in
    (gives.0, search rules, λ cames limit kept. none_left m p k cames limit c.args.self.desk _ c.new-seats.ensures)

pub loop-guest-preserved : goal.loop-guest-preserved
loop-guest-preserved g c =
    let m = either g.N.Mechanism.REQUESTS g.N.Mechanism.meaning g.K.Mechanism.meaning in
    let p = g.C.CredentialsProxy.meaning in
    let k = kdc_calls g.D.Kdc.told g.D.Kdc.asked g.D.Kdc.faults in
    let at = c.loop-guest in
    let guest = c.in-Some.guest in
    let all = c.args.self.guests.items in
    let rest = into_iter_items c.next.new.self in
    let steps : into_iter_items at.guest-iterator ≡ guest ∷ rest = c.in-Some.ensures.steps.0 in
    let parts : at.yielded ++ guest ∷ rest ≡ all = rw (← steps) at.invariant.0 in (
      append_assoc at.yielded (guest ∷ []) _ ∙ parts,
      let was = at.invariant.1 in
          let gone = c.in-Some.ensures.steps.1 in
          let short = ap length steps in
          omega arith,
      λ cames limit kept.
          let first = c.args.self.desk in
          let left = at.invariant.2 cames limit kept in
          let next = next_place m p k cames limit first at.yielded rest all guest parts kept in
          more_left m p k cames limit next.0 first at.yielded guest at.seats at.desk next.1 left c.leave_one.new.seats
          (c.in_ok-leave_one.ensures.left next.0 limit
          (next_kept m p k cames limit next.0 first at.yielded guest at.seats at.desk next.1 left rest all parts kept))
          c.leave_one.new.desk
          (next_numbered m p k cames limit next.0 first at.yielded guest at.seats at.desk next.1 left rest all parts kept)
          c.in_ok-leave_one.ensures.others,
    )

pub returns : goal.returns
returns g c cames limit visited =
    let m = either g.N.Mechanism.REQUESTS g.N.Mechanism.meaning g.K.Mechanism.meaning in
    let p = g.C.CredentialsProxy.meaning in
    let k = kdc_calls g.D.Kdc.told g.D.Kdc.asked g.D.Kdc.faults in
    let at = c.loop-guest in
    let first = c.args.self.desk in
    let ended = c.in-None.ensures.steps in
    let none : length (into_iter_items at.guest-iterator) ≡ 0 = rw at.invariant.1 at ended.0 in
    let all = front_is_all at.yielded (into_iter_items at.guest-iterator) c.args.self.guests.items none
    at.invariant.0 in
    let kept = visited_kept m p k cames limit c.args.self visited in
    all_left m p k cames limit first c.args.self.guests.items at.seats at.desk kept
    (subst (λ l. HaveLeft m p k cames limit first (length l) at.seats at.desk) all (at.invariant.2 cames limit kept))
