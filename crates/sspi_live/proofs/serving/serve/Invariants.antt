use Rattle.std.proofs.Common.{◌≡◌, length}
use Rattle.sspi_credssp.specs.declared.turn.End.TheVariants.{Server}
use Rattle.sspi_credssp.specs.Context.{either}
use Rattle.sspi_delegate.specs.History.{ProxyStays, ServerHistory}
use Rattle.sspi_live.specs.Answers.{SoFar}
use Rattle.sspi_live.specs.Channel.{channel}
use Rattle.sspi_live.specs.Sides.{AreOf}
use Rattle.sspi_live.proofs.serving.serve.Given as goal

abbrev pub invariant-loop-turn : goal.invariant-loop-turn
invariant-loop-turn g l = record {
  so_far : SoFar Server l.transcript.turns
      (channel g.S.Source.left g.S.Source.faults g.W.Sink.written g.W.Sink.faults l.fn.source l.fn.sink)
      (channel g.S.Source.left g.S.Source.faults g.W.Sink.written g.W.Sink.faults l.source l.sink);
  count : length l.transcript.turns ≡ l.turn;
  whose : AreOf Server l.transcript.turns;
  history : ServerHistory (either g.N.Mechanism.REQUESTS g.N.Mechanism.meaning g.K.Mechanism.meaning) g.C.CredentialsProxy.meaning
      l.fn.server l.transcript.turns l.server;
  proxy : ProxyStays g.C.CredentialsProxy.meaning l.fn.server.proxy l.server.proxy;
}
