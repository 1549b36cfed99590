use Rattle.std.proofs.Common.{◌≡◌, length}
use Rattle.sspi_framing.specs.declared.taking.TheConstants.{PIECE_LENGTH}
use Rattle.sspi_framing.proofs.Contents.{BodySoFar}
use Rattle.sspi_framing.proofs.taking.take_body.Given as goal

abbrev pub invariant-loop-missing : goal.invariant-loop-missing
invariant-loop-missing g l = record {
  so_far : BodySoFar l.size l.missing (g.S.Source.left l.fn.source) (g.S.Source.left l.source) l.fn.bytes.items l.bytes.items;
  unasked : l.missing ≡ l.size → l.source ≡ l.fn.source;
  room : length l.piece ≡ PIECE_LENGTH;
  cause : g.S.Source.faults l.source ≡ g.S.Source.faults l.fn.source;
}

abbrev pub decreases-loop-missing : goal.decreases-loop-missing
decreases-loop-missing g l = l.missing
