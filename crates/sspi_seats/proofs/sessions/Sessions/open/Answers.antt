use Rattle.std.proofs.Common.{◌≡◌, ◌∷◌, [], ◌++◌, length, map, sym, ap, subst, ◌∙◌, append_assoc, arith, rules}
use Rattle.std.proofs.lemmas.List.{map-append}
use Rattle.std.specs.Vec.Iter.{into_iter_items}
use Rattle.sspi_credssp.specs.Context.{either}
use Rattle.sspi_delegate.specs.Chain.{kdc_calls}
use Rattle.sspi_seats.specs.Sessions.{AreSeated}
use Rattle.sspi_seats.specs.Table.{place_of}
use Rattle.sspi_seats.proofs.Lists.{front_is_all}
use Rattle.sspi_seats.proofs.Seating.{empty_seated}
use Rattle.sspi_seats.proofs.sessions.Sessions.open.Goals as goal

pub loop-one-init : goal.loop-one-init
loop-one-init g c =
    let m = either g.N.Mechanism.REQUESTS g.N.Mechanism.meaning g.K.Mechanism.meaning in
    let k = kdc_calls g.D.Kdc.told g.D.Kdc.asked g.D.Kdc.faults in
    let gives = c.into_iter-one-iterator.ensures.into_iter_gives in
    (gives.0, search rules, empty_seated m g.C.CredentialsProxy.meaning k c.args.limit c.new-sessions.result c.new-sessions.ensures)

pub loop-one-preserved : goal.loop-one-preserved
loop-one-preserved g c =
    let m = either g.N.Mechanism.REQUESTS g.N.Mechanism.meaning g.K.Mechanism.meaning in
    let p = g.C.CredentialsProxy.meaning in
    let k = kdc_calls g.D.Kdc.told g.D.Kdc.asked g.D.Kdc.faults in
    let at = c.loop-one in
    let one = c.in-Some.one in
    let rest = into_iter_items c.next.new.self in
    let steps : into_iter_items at.one-iterator ≡ one ∷ rest = c.in-Some.ensures.steps.0 in
    let parts : at.yielded ++ one ∷ rest ≡ c.args.joined.items = rw (← steps) at.invariant.0 in (
      append_assoc at.yielded (one ∷ []) _ ∙ parts,
      let was = at.invariant.1 in
          let gone = c.in-Some.ensures.steps.1 in
          let short = ap length steps in
          omega arith,
      subst (λ cames. AreSeated m p k cames c.args.limit c.admit.new.self) (sym (map-append place_of at.yielded (one ∷ [])))
          (c.in-Ok.ensures.seated (map place_of at.yielded) c.args.limit at.invariant.2),
    )

pub returns : goal.returns
returns g c =
    let m = either g.N.Mechanism.REQUESTS g.N.Mechanism.meaning g.K.Mechanism.meaning in
    let p = g.C.CredentialsProxy.meaning in
    let k = kdc_calls g.D.Kdc.told g.D.Kdc.asked g.D.Kdc.faults in
    let at = c.loop-one in
    let ended = c.in-None.ensures.steps in
    let none : length (into_iter_items at.one-iterator) ≡ 0 = rw at.invariant.1 at ended.0 in
    let all = front_is_all at.yielded (into_iter_items at.one-iterator) c.args.joined.items none
    at.invariant.0 in
    subst (λ l. AreSeated m p k (map place_of l) c.args.limit at.sessions) all at.invariant.2
