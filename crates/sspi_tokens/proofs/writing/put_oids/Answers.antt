use Rattle.std.proofs.Common.{ap, arith, length, ◌+◌}
use Rattle.sspi_tokens.proofs.Lengths.{oids_text-nil, oids_text-take, oids_more, oids_front, element_size_more}
use Rattle.sspi_tokens.proofs.Written.{put_then, put_nothing}
use Rattle.sspi_tokens.proofs.writing.put_oids.Goals as goal

pub loop-oid-init : goal.loop-oid-init
loop-oid-init c = rw oids_text-nil (put_nothing c.args.sink.now)

pub put_element-requires : goal.put_element-requires
put_element-requires c =
    let more = oids_more c.args.oids.now c.loop-oid.oid-index c.oid-item.result c.loop-oid-test.true c.oid-item.is in
    omega (
      arith,
      more,
      oids_front c.args.oids.now (c.loop-oid.oid-index + 1),
      ap length c.content.ensures,
      element_size_more (length c.oid-item.result),
      c.requires,
    )

pub loop-oid-preserved : goal.loop-oid-preserved
loop-oid-preserved c =
    let more = oids_text-take c.args.oids.now c.loop-oid.oid-index c.oid-item.result c.loop-oid-test.true c.oid-item.is in
    rw more (put_then c.loop-oid.invariant (rw c.content.ensures at c.in_ok-put_element.ensures))
