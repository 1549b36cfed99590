use Rattle.std.proofs.Common.{◌≡◌, ◌++◌, length, map}
use Rattle.std.specs.Vec.Iter.{into_iter_items, into_iter_len}
use Rattle.sspi_credssp.specs.Context.{either}
use Rattle.sspi_delegate.specs.Chain.{kdc_calls}
use Rattle.sspi_seats.specs.Sessions.{AreSeated}
use Rattle.sspi_seats.specs.Table.{place_of}
use Rattle.sspi_seats.proofs.sessions.Sessions.open.Given as goal

abbrev pub invariant-loop-one : goal.invariant-loop-one
invariant-loop-one g l =
    let m = either g.N.Mechanism.REQUESTS g.N.Mechanism.meaning g.K.Mechanism.meaning in
    let k = kdc_calls g.D.Kdc.told g.D.Kdc.asked g.D.Kdc.faults in
    (l.yielded ++ into_iter_items l.one-iterator ≡ l.fn.joined.items)
    × (into_iter_len l.one-iterator ≡ length (into_iter_items l.one-iterator))
    × AreSeated m g.C.CredentialsProxy.meaning k (map place_of l.yielded) l.fn.limit l.sessions
