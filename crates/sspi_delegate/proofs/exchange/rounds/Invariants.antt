use Rattle.std.proofs.Common.{◌≡◌, []}
use Rattle.sspi_credssp.specs.Context.{either}
use Rattle.sspi_delegate.specs.Chain.{kdc_calls}
use Rattle.sspi_delegate.specs.Turns.{client_turns, server_turns}
use Rattle.sspi_delegate.specs.History.{ClientHistory, ServerHistory, KdcStays, ProxyStays}
use Rattle.sspi_delegate.specs.Link.{StaysTold}
use Rattle.sspi_delegate.proofs.Reading.{IsStill}
use Rattle.sspi_delegate.proofs.LogSteps.{IsAtTurn}
use Rattle.sspi_delegate.proofs.exchange.rounds.Given as goal

abbrev pub invariant-loop-turn : goal.invariant-loop-turn
invariant-loop-turn g l = record {
  at_turn : l.fn.transcript.turns ≡ [] →
      IsAtTurn (g.L.Link.log l.fn.link) (g.L.Link.faults l.fn.link) l.transcript.turns (g.L.Link.log l.link)
      (g.L.Link.faults l.link) l.turn;
  told : StaysTold (g.L.Link.edits l.fn.link) (g.L.Link.edits l.link) (g.L.Link.log l.fn.link) (g.L.Link.log l.link);
  client_history : l.fn.transcript.turns ≡ [] →
      ClientHistory (either g.N.Mechanism.REQUESTS g.N.Mechanism.meaning g.K.Mechanism.meaning)
      (kdc_calls g.D.Kdc.told g.D.Kdc.asked g.D.Kdc.faults)
      l.fn.client l.fn.kdc (client_turns l.transcript.turns) l.client l.kdc;
  server_history : l.fn.transcript.turns ≡ [] →
      ServerHistory (either g.N.Mechanism.REQUESTS g.N.Mechanism.meaning g.K.Mechanism.meaning) g.C.CredentialsProxy.meaning
      l.fn.server (server_turns l.transcript.turns) l.server;
  proxy : ProxyStays g.C.CredentialsProxy.meaning l.fn.server.proxy l.server.proxy;
  kdc : KdcStays g.D.Kdc.told g.D.Kdc.faults l.fn.kdc l.kdc;
  still : IsStill (g.L.Link.edits l.fn.link) (g.L.Link.faults l.fn.link) (g.L.Link.faults l.link);
}
