use Rattle.std.proofs.Common.{rules, ◌∙◌, arith}
use Rattle.sspi_names.specs.Utf16.{bytes_le}
use Rattle.sspi_names.proofs.CodeUnits.{bytes_le-more}
use Rattle.sspi_names.proofs.utf16.Utf16Text.to_bytes_le.Goals as goal

pub loop-unit-init : goal.loop-unit-init
unfolding bytes_le
loop-unit-init c = search rules

pub loop-unit-preserved : goal.loop-unit-preserved
loop-unit-preserved c =
    c.in_ok-extend_from_slice.ensures.items
    ∙ bytes_le-more c.deref-unit-items.result.now c.loop-unit.unit-index _ _ c.loop-unit-test.true
    (omega (arith, c.type_inv.unit-items c.loop-unit.unit-index)) c.loop-unit.invariant c.to_le_bytes.ensures
