use Rattle.std.proofs.Common.{ℕ, List}
use Rattle.sspi_credssp.specs.Context.{either}
use Rattle.sspi_credssp.specs.declared.context.SspiContext.{SspiContext}
use Rattle.sspi_delegate.specs.Chain.{kdc_calls}
use Rattle.sspi_seats.specs.Seat.{Place}
use Rattle.sspi_seats.specs.Sessions.{AreSeated, AreVisited}
use Rattle.sspi_seats.proofs.sessions.Sessions.serve.Given as goal

abbrev pub invariant-loop-turn : goal.invariant-loop-turn
invariant-loop-turn g l =
    let c = either g.N.Mechanism.REQUESTS g.N.Mechanism.meaning g.K.Mechanism.meaning in
    let k = kdc_calls g.D.Kdc.told g.D.Kdc.asked g.D.Kdc.faults in
    (cames : List (Place (SspiContext g.row.N.Denot g.row.K.Denot) g.row.C.Denot g.row.D.Denot)) (most : ℕ) →
    AreSeated c g.C.CredentialsProxy.meaning k cames most l.fn.self → AreVisited c g.C.CredentialsProxy.meaning k cames l.turn 0 l.self
