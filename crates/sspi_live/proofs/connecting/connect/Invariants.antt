use Rattle.std.proofs.Common.{◌≡◌, length}
use Rattle.sspi_credssp.specs.declared.turn.End.TheVariants.{Client}
use Rattle.sspi_credssp.specs.Context.{either}
use Rattle.sspi_delegate.specs.Chain.{kdc_calls}
use Rattle.sspi_delegate.specs.History.{ClientHistory, KdcStays}
use Rattle.sspi_live.specs.Answers.{SoFar}
use Rattle.sspi_live.specs.Channel.{channel}
use Rattle.sspi_live.specs.Sides.{AreOf, BeginsItself}
use Rattle.sspi_live.proofs.connecting.connect.Given as goal

abbrev pub invariant-loop-turn : goal.invariant-loop-turn
invariant-loop-turn g l = record {
  so_far : SoFar Client l.transcript.turns
      (channel g.S.Source.left g.S.Source.faults g.W.Sink.written g.W.Sink.faults l.fn.source l.fn.sink)
      (channel g.S.Source.left g.S.Source.faults g.W.Sink.written g.W.Sink.faults l.source l.sink);
  count : length l.transcript.turns ≡ l.turn;
  whose : AreOf Client l.transcript.turns;
  begins : BeginsItself l.transcript.turns;
  history : ClientHistory (either g.N.Mechanism.REQUESTS g.N.Mechanism.meaning g.K.Mechanism.meaning)
      (kdc_calls g.D.Kdc.told g.D.Kdc.asked g.D.Kdc.faults)
      l.fn.client l.fn.kdc l.transcript.turns l.client l.kdc;
  kdc : KdcStays g.D.Kdc.told g.D.Kdc.faults l.fn.kdc l.kdc;
}
