use Rattle.sspi_credssp.specs.Context.{either}
use Rattle.sspi_delegate.specs.Chain.{kdc_calls}
use Rattle.sspi_seats.specs.Seat.{place}
use Rattle.sspi_seats.proofs.Seating.{joined}
use Rattle.sspi_seats.proofs.sessions.Sessions.admit.Goals as goal

pub returns-in-Ok-clause-seated : goal.returns-in-Ok-clause-seated
returns-in-Ok-clause-seated g c cames limit seated =
    let m = either g.N.Mechanism.REQUESTS g.N.Mechanism.meaning g.K.Mechanism.meaning in
    let p = g.C.CredentialsProxy.meaning in
    let k = kdc_calls g.D.Kdc.told g.D.Kdc.asked g.D.Kdc.faults in
    joined m p k cames (place c.args.joined.client c.args.joined.kdc c.args.joined.server) c.in-Ok.number c.new-guest.result limit
    c.args.self.now (record c.args.self.now { desk = c.admit.new.self; guests = c.push_reserved.new.self }) seated c.new-guest.ensures
    c.in-Ok.ensures
    (rw c.reserve.ensures.items at c.push_reserved.ensures.items)
