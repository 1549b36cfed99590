use Rattle.std.proofs.Common.{Some}
use Rattle.sspi_credssp.proofs.ContextLaws.{lawful}
use Rattle.sspi_credssp.specs.Context.{either}
use Rattle.sspi_delegate.specs.Chain.{kdc_calls}
use Rattle.sspi_desk.specs.Desk.{IsClosed}
use Rattle.sspi_seats.proofs.Leaving.{kept_at, seat_of}
use Rattle.sspi_seats.proofs.Speaking.{kept_done}
use Rattle.sspi_seats.proofs.sessions.leave_one.Goals as goal

pub returns-in-Some-clause-left : goal.returns-in-Some-clause-left
returns-in-Some-clause-left g c came limit kept =
    let m = either g.N.Mechanism.REQUESTS g.N.Mechanism.meaning g.K.Mechanism.meaning in
    let p = g.C.CredentialsProxy.meaning in
    let k = kdc_calls g.D.Kdc.told g.D.Kdc.asked g.D.Kdc.faults in
    let law = lawful _ _ g.N.Mechanism.meaning g.K.Mechanism.meaning g.met.N.Mechanism.laws g.met.K.Mechanism.laws in
    let closed : IsClosed c.args.guest.number (Some c.in-Some.server) c.args.desk.now c.close.new.self =
    rw c.number.ensures at c.in-Some.ensures in
    let visited = kept_at m p k came limit c.args.guest _ c.in-Some.server closed.0 kept in
    kept_done c.push.result (λ added. record {
      seat = c.seat.result;
      added = added;
      is = seat_of m p k came law limit c.args.guest c.in-Some.server c.seat.result visited c.seat.ensures;
    }) c.push.ensures.ok

pub returns-in-Some-clause-others : goal.returns-in-Some-clause-others
returns-in-Some-clause-others g c =
    let closed : IsClosed c.args.guest.number (Some c.in-Some.server) c.args.desk.now c.close.new.self =
    rw c.number.ensures at c.in-Some.ensures in
    record { others = closed.1.others; admitted = closed.2 }
