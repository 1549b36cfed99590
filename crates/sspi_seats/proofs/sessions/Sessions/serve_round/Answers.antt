use Rattle.std.proofs.Common.{◌≡◌, length, rules, arith}
use Rattle.sspi_credssp.specs.Context.{either}
use Rattle.sspi_delegate.specs.Chain.{kdc_calls}
use Rattle.sspi_seats.proofs.Seating.{round_over}
use Rattle.sspi_seats.proofs.sessions.Sessions.serve_round.Goals as goal

pub returns : goal.returns
returns g c cames rounds is visited =
    let m = either g.N.Mechanism.REQUESTS g.N.Mechanism.meaning g.K.Mechanism.meaning in
    let p = g.C.CredentialsProxy.meaning in
    let k = kdc_calls g.D.Kdc.told g.D.Kdc.asked g.D.Kdc.faults in
    let many : c.len-at-end.result ≡ length c.args.self.now.guests.items = search rules in
    rw is (round_over m p k cames rounds c.loop-at.at c.loop-at.self (c.loop-at.invariant cames rounds is visited)
    (omega (arith, c.loop-at-test.false, many, visited.seated)))
