use Rattle.std.proofs.Common.{◌∙◌}
use Rattle.sspi_tsreq.proofs.Blocks.{filling_step, filling_within}
use Rattle.sspi_channel.proofs.early.read_front.Goals as goal

pub loop-filled-preserved : goal.loop-filled-preserved
loop-filled-preserved g c = record {
  within = filling_within c.loop-filled.filled c.in_ok-count.count _ c.loop-filled.into c.read.new.into c.loop-filled.invariant.within
      c.in_ok-count.ensures.bound;
  so_far = filling_step _ _ _ c.loop-filled.filled c.in_ok-count.count c.loop-filled.into c.read.new.into c.loop-filled.invariant.within
      c.in_ok-count.ensures.bound c.loop-filled.invariant.so_far c.in_ok-count.ensures.bytes.0;
  cause = c.in_ok-count.ensures.cause ∙ c.loop-filled.invariant.cause;
}
