use Rattle.std.proofs.Common.{◌≡◌, ℕ, List, false, length, drop, ◌≤◌}
use Rattle.sspi_delegate.specs.Edits.{fails}
use Rattle.sspi_delegate.specs.Link.{edited}
use Rattle.sspi_delegate.proofs.edit.since_whole.Given as goal

abbrev pub invariant-loop-place : goal.invariant-loop-place
invariant-loop-place l = record {
  within : l.start ≤ length l.edits;
  same : (earlier : List (List ℕ)) (sent : List ℕ) → length earlier ≡ l.entry → fails l.entry l.edits ≡ false →
      edited (drop l.start l.edits) earlier sent ≡ edited l.edits earlier sent;
  none : fails l.entry l.edits ≡ false → fails l.entry (drop l.start l.edits) ≡ false;
}
