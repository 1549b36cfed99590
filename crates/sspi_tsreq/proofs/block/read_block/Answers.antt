use Rattle.std.proofs.Common.{◌∙◌, length, sym, arith}
use Rattle.sspi_tsreq.proofs.Blocks.{filling_step, filling_within, block_ended, block_full}
use Rattle.sspi_tsreq.proofs.block.read_block.Goals as goal

pub loop-filled-preserved : goal.loop-filled-preserved
loop-filled-preserved g c = record {
  within = filling_within c.loop-filled.filled c.in_ok-count.count _ c.loop-filled.into c.read.new.into c.loop-filled.invariant.within
      c.in_ok-count.ensures.bound;
  so_far = filling_step _ _ _ c.loop-filled.filled c.in_ok-count.count c.loop-filled.into c.read.new.into c.loop-filled.invariant.within
      c.in_ok-count.ensures.bound c.loop-filled.invariant.so_far c.in_ok-count.ensures.bytes.0;
  cause = c.in_ok-count.ensures.cause ∙ c.loop-filled.invariant.cause;
}

pub returns-then-count-eq0-clause-read : goal.returns-then-count-eq0-clause-read
returns-then-count-eq0-clause-read g c =
    block_ended _ _ _ c.loop-filled.filled c.in_ok-count.count (length c.args.into.now) c.loop-filled.into c.read.new.into
    (sym c.loop-filled.auto.into) (omega arith) c.if-count-eq0.true c.loop-filled.invariant.so_far
    c.in_ok-count.ensures.bytes.0 (c.in_ok-count.ensures.bytes.1 c.if-count-eq0.true (omega arith))

pub returns-clause-read : goal.returns-clause-read
returns-clause-read g c = block_full _ _ c.loop-filled.filled (length c.args.into.now) c.loop-filled.into (sym c.loop-filled.auto.into)
    (omega arith) c.loop-filled.invariant.so_far
