use Rattle.std.proofs.Common.{◌∙◌}
use Rattle.sspi_ber.proofs.Written.{left_step}
use Rattle.sspi_ber.proofs.writing.write_all.Goals as goal

pub loop-rest-preserved : goal.loop-rest-preserved
loop-rest-preserved g c = record {
  left = rw c.split_at.ensures.back (left_step c.in_ok-count.count c.loop-rest.invariant.left c.in_ok-count.ensures.bytes);
  cause = c.in_ok-count.ensures.cause ∙ c.loop-rest.invariant.cause;
}
