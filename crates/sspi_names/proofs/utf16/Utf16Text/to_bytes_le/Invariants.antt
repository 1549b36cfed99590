use Rattle.std.proofs.Common.{◌≡◌, take}
use Rattle.sspi_names.specs.Utf16.{bytes_le}
use Rattle.sspi_names.proofs.utf16.Utf16Text.to_bytes_le.Given as goal

abbrev pub invariant-loop-unit : goal.invariant-loop-unit
invariant-loop-unit l = l.bytes.items ≡ bytes_le (take l.unit-index l.unit-items)
