use Rattle.std.proofs.Common.{◌≡◌, ◌-◌, ◌≤◌, length}
use Rattle.sspi_tsreq.proofs.Blocks.{Filling}
use Rattle.sspi_channel.proofs.early.read_front.Given as goal

abbrev pub invariant-loop-filled : goal.invariant-loop-filled
invariant-loop-filled g l = record {
  within : l.filled ≤ length l.into;
  so_far : Filling (g.S.Source.left l.initial.source) (g.S.Source.left l.source) l.filled l.into;
  cause : g.S.Source.faults l.source ≡ g.S.Source.faults l.initial.source;
}

abbrev pub decreases-loop-filled : goal.decreases-loop-filled
decreases-loop-filled g l = length l.into - l.filled
