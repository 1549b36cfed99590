use Rattle.std.proofs.Common.{◌≡◌, ◌+◌, ◌-◌, ◌≤◌, length}
use Rattle.std.specs.Io.KnownBytes.{Consumes}
use Rattle.sspi_scenario.specs.declared.reading.TheConstants.{PIECE_LENGTH}
use Rattle.sspi_scenario.proofs.reading.read_text.Given as goal

abbrev pub invariant-loop-room : goal.invariant-loop-room
invariant-loop-room g l = record {
  read : Consumes (g.S.Source.left l.fn.source) (g.S.Source.left l.source) l.text.items;
  short : length l.text.items ≤ l.fn.limit + 1;
  room : length l.room ≡ PIECE_LENGTH;
  faults : g.S.Source.faults l.source ≡ g.S.Source.faults l.fn.source;
}

abbrev pub decreases-loop-room : goal.decreases-loop-room
decreases-loop-room g l = l.fn.limit + 1 - length l.text.items
