use Rattle.std.proofs.Common.{◌≡◌, ℕ, ◌<◌, ◌≤◌, Some, length, rules, refl, sym, ◌∙◌, subst, arith}
use Rattle.std.specs.Vec.{with_item}
use Rattle.std.proofs.lemmas.List.{length-set}
use Rattle.std.proofs.lemmas.Option.{slice_get_read}
use Rattle.std.specs.List.{slice_get}
use Rattle.sspi_credssp.specs.Context.{either}
use Rattle.sspi_delegate.specs.Chain.{kdc_calls}
use Rattle.sspi_desk.specs.Desk.{session}
use Rattle.sspi_seats.specs.Keeping.{OthersStay}
use Rattle.sspi_seats.specs.Sessions.{IsKept}
use Rattle.sspi_seats.proofs.Lists.{has_element, set_here, set_apart}
use Rattle.sspi_seats.proofs.Speaking.{kept_done}
use Rattle.sspi_seats.proofs.Seating.{seat_visited, no_seat}
use Rattle.sspi_seats.proofs.sessions.Sessions.serve_guest.Goals as goal

pub returns-in-Some : goal.returns-in-Some
returns-in-Some g c cames rounds is visited =
    let m = either g.N.Mechanism.REQUESTS g.N.Mechanism.meaning g.K.Mechanism.meaning in
    let p = g.C.CredentialsProxy.meaning in
    let k = kdc_calls g.D.Kdc.told g.D.Kdc.asked g.D.Kdc.faults in
    let guests = c.args.self.now.guests.items in
    let guest = c.in-Some.guest.now in
    let desk = c.args.self.now.desk in
    let within : c.args.at < length guests = search rules in
    let found : slice_get guests c.args.at ≡ Some guest = slice_get_read guests (length guests) c.args.at guest refl within
    c.in-Some.ensures.value in
    let number : guest.number ≡ c.args.at = visited.numbered c.args.at guest found in
    let place = has_element cames c.args.at (omega (arith, within, visited.seated)) in
    let kept = visited.late c.args.at place.0 guest place.1 found (omega arith) in
    kept_done c.visit.result (λ after. seat_visited m p k cames rounds c.args.at c.args.self.now
    (record c.args.self.now { desk = c.visit.new.desk; guests = with_item c.args.self.now.guests c.args.at c.visit.new.self }) visited
    place.0 c.visit.new.self place.1
    (set_apart guests c.args.at c.visit.new.self) (set_here guests c.args.at c.visit.new.self within)
    (subst (λ (n : ℕ). OthersStay n desk c.visit.new.desk) number c.visit.ensures.others)
    (subst (λ (n : ℕ). IsKept m p k place.0 n c.visit.new.self (session c.args.at c.visit.new.desk)) is
    (subst (λ (n : ℕ). IsKept m p k place.0 c.args.turn c.visit.new.self (session n c.visit.new.desk)) number after))
    (c.visit.ensures.number ∙ number)
    (length-set guests c.args.at c.visit.new.self))
    (c.visit.ensures.visited place.0 rounds is
    (subst (λ (n : ℕ). IsKept m p k place.0 rounds guest (session n desk)) (sym number) kept))

pub returns-in-None : goal.returns-in-None
returns-in-None g c cames rounds is visited =
    let m = either g.N.Mechanism.REQUESTS g.N.Mechanism.meaning g.K.Mechanism.meaning in
    let p = g.C.CredentialsProxy.meaning in
    let k = kdc_calls g.D.Kdc.told g.D.Kdc.asked g.D.Kdc.faults in
    let past : length c.args.self.now.guests.items ≤ c.args.at = search rules in
    no_seat m p k cames rounds c.args.at c.args.self.now visited past
