use Rattle.std.proofs.Common.{◌≡◌, ◌≤◌, ◌-◌, length}
use Rattle.sspi_tsreq.specs.declared.block.TheConstants.{PIECE_LENGTH}
use Rattle.sspi_tsreq.proofs.Contents.{Copied}
use Rattle.sspi_tsreq.proofs.block.read_content.Given as goal

abbrev pub invariant-loop-room : goal.invariant-loop-room
invariant-loop-room g l = record {
  copied : Copied (g.S.Source.left l.initial.source) (g.S.Source.left l.source) l.content.items;
  within : length l.content.items ≤ l.len;
  room : length l.room ≡ PIECE_LENGTH;
  cause : g.S.Source.faults l.source ≡ g.S.Source.faults l.initial.source;
}

abbrev pub decreases-loop-room : goal.decreases-loop-room
decreases-loop-room g l = l.len - length l.content.items
