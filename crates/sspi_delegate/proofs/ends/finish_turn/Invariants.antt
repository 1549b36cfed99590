use Rattle.std.proofs.Common.{Ok}
use Rattle.sspi_credssp.specs.Context.{either}
use Rattle.sspi_credssp.specs.Acts.{left_in}
use Rattle.sspi_delegate.specs.Chain.{kdc_calls}
use Rattle.sspi_delegate.specs.History.{ClientTakes, KdcStays}
use Rattle.sspi_delegate.proofs.Asking.{rounds_left}
use Rattle.sspi_delegate.proofs.ends.finish_turn.Given as goal

abbrev pub invariant-loop-progress : goal.invariant-loop-progress
invariant-loop-progress g l = record {
  takes : ClientTakes (either g.N.Mechanism.REQUESTS g.N.Mechanism.meaning g.K.Mechanism.meaning)
      (kdc_calls g.D.Kdc.told g.D.Kdc.asked g.D.Kdc.faults) l.fn.client l.fn.kdc l.fn.request (Ok l.progress) l.client l.kdc;
  kdc : KdcStays g.D.Kdc.told g.D.Kdc.faults l.fn.kdc l.kdc;
}

abbrev pub decreases-loop-progress : goal.decreases-loop-progress
decreases-loop-progress g l = rounds_left l.progress (left_in
    (either g.N.Mechanism.REQUESTS g.N.Mechanism.meaning g.K.Mechanism.meaning) l.client.context)
