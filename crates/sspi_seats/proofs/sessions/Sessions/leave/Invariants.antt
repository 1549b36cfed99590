use Rattle.std.proofs.Common.{◌≡◌, ℕ, List, ◌++◌, length}
use Rattle.std.specs.Vec.Iter.{into_iter_items, into_iter_len}
use Rattle.sspi_credssp.specs.Context.{either}
use Rattle.sspi_credssp.specs.declared.context.SspiContext.{SspiContext}
use Rattle.sspi_delegate.specs.Chain.{kdc_calls}
use Rattle.sspi_seats.specs.Seat.{Place}
use Rattle.sspi_seats.specs.Keeping.{AreKept}
use Rattle.sspi_seats.proofs.Leaving.{HaveLeft}
use Rattle.sspi_seats.proofs.sessions.Sessions.leave.Given as goal

abbrev pub invariant-loop-guest : goal.invariant-loop-guest
invariant-loop-guest g l =
    let m = either g.N.Mechanism.REQUESTS g.N.Mechanism.meaning g.K.Mechanism.meaning in
    let p = g.C.CredentialsProxy.meaning in
    let k = kdc_calls g.D.Kdc.told g.D.Kdc.asked g.D.Kdc.faults in
    (l.yielded ++ into_iter_items l.guest-iterator ≡ l.fn.self.guests.items)
    × (into_iter_len l.guest-iterator ≡ length (into_iter_items l.guest-iterator))
    × ((cames : List (Place (SspiContext g.row.N.Denot g.row.K.Denot) g.row.C.Denot g.row.D.Denot)) (limit : ℕ) →
    AreKept m p k cames limit l.fn.self.guests.items l.fn.self.desk →
    HaveLeft m p k cames limit l.fn.self.desk (length l.yielded) l.seats l.desk)
