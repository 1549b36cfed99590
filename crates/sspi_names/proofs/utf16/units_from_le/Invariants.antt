use Rattle.std.proofs.Common.{◌≡◌, ◌++◌, length}
use Rattle.sspi_names.specs.Utf16.{units_le}
use Rattle.sspi_names.proofs.utf16.units_from_le.Given as goal

abbrev pub invariant-loop-rest : goal.invariant-loop-rest
invariant-loop-rest l = l.units.items ++ units_le l.rest ≡ units_le l.bytes

abbrev pub decreases-loop-rest : goal.decreases-loop-rest
decreases-loop-rest l = length l.rest
