use Rattle.std.proofs.Common.{◌≡◌, [], take, reverse}
use Rattle.sspi_credssp.specs.Context.{either}
use Rattle.sspi_delegate.specs.Chain.{kdc_calls}
use Rattle.sspi_delegate.specs.Turns.{client_turns, server_turns}
use Rattle.sspi_delegate.specs.History.{ClientHistory, ServerHistory, KdcStays, ProxyStays}
use Rattle.sspi_play.specs.Hands.{Stands}
use Rattle.sspi_play.specs.History.{Gave}
use Rattle.sspi_play.proofs.schedule.hand_all.Given as goal

abbrev pub invariant-loop-delivery : goal.invariant-loop-delivery
invariant-loop-delivery g l = record {
  stands : l.fn.transcript.turns ≡ [] → Stands (reverse (take l.delivery-index l.schedule)) l.transcript.turns l.standing;
  client_history : l.fn.transcript.turns ≡ [] →
      ClientHistory (either g.N.Mechanism.REQUESTS g.N.Mechanism.meaning g.K.Mechanism.meaning)
      (kdc_calls g.D.Kdc.told g.D.Kdc.asked g.D.Kdc.faults)
      l.fn.client l.fn.kdc (client_turns l.transcript.turns) l.client l.kdc;
  server_history : l.fn.transcript.turns ≡ [] →
      ServerHistory (either g.N.Mechanism.REQUESTS g.N.Mechanism.meaning g.K.Mechanism.meaning) g.C.CredentialsProxy.meaning
      l.fn.server (server_turns l.transcript.turns) l.server;
  identity : l.fn.transcript.turns ≡ [] →
      Gave (either g.N.Mechanism.REQUESTS g.N.Mechanism.meaning g.K.Mechanism.meaning) g.C.CredentialsProxy.meaning
      l.fn.server l.standing.played.identity (server_turns l.transcript.turns) l.server;
  proxy : ProxyStays g.C.CredentialsProxy.meaning l.fn.server.proxy l.server.proxy;
  kdc : KdcStays g.D.Kdc.told g.D.Kdc.faults l.fn.kdc l.kdc;
}
