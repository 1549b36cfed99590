use Rattle.std.proofs.Common.{◌≡◌, ◌==◌, take, count_by}
use Rattle.sspi_names.proofs.utf16.Utf16Text.count_of.Given as goal

abbrev pub invariant-loop-other : goal.invariant-loop-other
invariant-loop-other l = l.count ≡ count_by (λ u. u == l.unit) (take l.other-index l.other-items)
