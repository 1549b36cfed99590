use Rattle.std.proofs.Common.{◌≡◌, ◌≤◌, ◌-◌, length, take}
use Rattle.sspi_delegate.specs.Log.{IsUnread}
use Rattle.sspi_delegate.specs.Link.{StaysTold}
use Rattle.sspi_early.proofs.Taking.{IsSoFar, IsStill}
use Rattle.sspi_early.proofs.hearing.take_result.Given as goal

abbrev pub invariant-loop-taken : goal.invariant-loop-taken
invariant-loop-taken g l = record {
  head : IsUnread (g.L.Link.log l.fn.link) → IsSoFar (g.L.Link.log l.fn.link) (g.L.Link.log l.link) (take l.taken l.bytes);
  short : l.taken ≤ 4;
  room : length l.bytes ≡ 4;
  calm : g.L.Link.faults l.link ≡ g.L.Link.faults l.fn.link;
  told : StaysTold (g.L.Link.edits l.fn.link) (g.L.Link.edits l.link) (g.L.Link.log l.fn.link) (g.L.Link.log l.link);
  still : IsStill (g.L.Link.edits l.fn.link) (g.L.Link.faults l.fn.link) (g.L.Link.faults l.link);
}

abbrev pub decreases-loop-taken : goal.decreases-loop-taken
decreases-loop-taken g l = 4 - l.taken
