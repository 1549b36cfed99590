use Rattle.std.proofs.Common.{◌≡◌, length}
use Rattle.std.specs.Char.Utf16.{has_unpaired_surrogate}
use Rattle.sspi_names.specs.Utf16.{units_le}
use Rattle.sspi_names.proofs.utf16.is_well_formed.Given as goal

abbrev pub invariant-loop-rest : goal.invariant-loop-rest
invariant-loop-rest l = has_unpaired_surrogate (units_le l.rest) ≡ has_unpaired_surrogate (units_le l.bytes)

abbrev pub decreases-loop-rest : goal.decreases-loop-rest
decreases-loop-rest l = length l.rest
