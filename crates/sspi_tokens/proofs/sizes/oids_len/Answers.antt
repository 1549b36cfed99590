use Rattle.std.proofs.Common.{◌≡◌, ap, arith, length, ◌+◌, ◌∙◌}
use Rattle.sspi_ber.specs.Short.{element_size}
use Rattle.sspi_tokens.proofs.Lengths.{oids_more, oids_front, oids_none, element_size_more}
use Rattle.sspi_tokens.proofs.sizes.oids_len.Goals as goal

pub loop-oid-init : goal.loop-oid-init
loop-oid-init c = (omega (arith, oids_none), omega arith)

pub returns-in_err-short : goal.returns-in_err-short
returns-in_err-short c =
    let more = oids_more c.args.oids.now c.loop-oid.oid-index c.oid-item.result c.loop-oid-test.true c.oid-item.is in
    rw c.from_residual.ensures
    (λ le. c.in_err-short.ensures
    (omega (
      arith,
      more,
      oids_front c.args.oids.now (c.loop-oid.oid-index + 1),
      ap length c.content.ensures,
      element_size_more (length c.oid-item.result),
    )))

pub returns-in_err-oid : goal.returns-in_err-oid
returns-in_err-oid c =
    let more = oids_more c.args.oids.now c.loop-oid.oid-index c.oid-item.result c.loop-oid-test.true c.oid-item.is in
    let size : element_size c.in_ok-short.field-0 ≡ element_size (length c.oid-item.result) = ap element_size
    (c.in_ok-short.ensures.1 ∙ ap length c.content.ensures) in
    rw c.from_residual-in_err-oid.ensures
    (λ le. c.in_err-oid.ensures (omega (arith, more, oids_front c.args.oids.now (c.loop-oid.oid-index + 1), size)))

pub returns-in_err-len : goal.returns-in_err-len
returns-in_err-len c =
    let more = oids_more c.args.oids.now c.loop-oid.oid-index c.oid-item.result c.loop-oid-test.true c.oid-item.is in
    let size : c.in_ok-oid.oid ≡ element_size (length c.oid-item.result) = c.in_ok-oid.ensures.1
    ∙ ap element_size (c.in_ok-short.ensures.1 ∙ ap length c.content.ensures) in
    rw c.from_residual-in_err-len.ensures
    (λ le. c.in_err-len.ensures (omega (arith, more, oids_front c.args.oids.now (c.loop-oid.oid-index + 1), size)))

pub loop-oid-preserved : goal.loop-oid-preserved
loop-oid-preserved c =
    let more = oids_more c.args.oids.now c.loop-oid.oid-index c.oid-item.result c.loop-oid-test.true c.oid-item.is in
    let size : c.in_ok-oid.oid ≡ element_size (length c.oid-item.result) = c.in_ok-oid.ensures.1
    ∙ ap element_size (c.in_ok-short.ensures.1 ∙ ap length c.content.ensures) in
    (omega (arith, more, size, c.in_ok-len.ensures.1), omega (arith, c.in_ok-len.ensures.0, c.in_ok-len.ensures.1))
