use Rattle.std.proofs.Common.{◌≡◌, ◌≤◌, ◌-◌, length}
use Rattle.sspi_delegate.specs.declared.messages.TheConstants.{DELIVERY_LIMIT, PIECE_LENGTH}
use Rattle.sspi_delegate.specs.Log.{IsUnread}
use Rattle.sspi_delegate.specs.Link.{StaysTold}
use Rattle.sspi_delegate.proofs.Reading.{IsFedSoFar, IsStill}
use Rattle.sspi_delegate.proofs.messages.take_delivery.Given as goal

abbrev pub invariant-loop-taken : goal.invariant-loop-taken
invariant-loop-taken g l = record {
  head : IsUnread (g.L.Link.log l.fn.link) → IsFedSoFar (g.L.Link.log l.fn.link) (g.L.Link.log l.link) l.reader l.taken;
  short : l.taken ≤ DELIVERY_LIMIT;
  room : length l.room ≡ PIECE_LENGTH;
  calm : g.L.Link.faults l.link ≡ g.L.Link.faults l.fn.link;
  told : StaysTold (g.L.Link.edits l.fn.link) (g.L.Link.edits l.link) (g.L.Link.log l.fn.link) (g.L.Link.log l.link);
  still : IsStill (g.L.Link.edits l.fn.link) (g.L.Link.faults l.fn.link) (g.L.Link.faults l.link);
}

abbrev pub decreases-loop-taken : goal.decreases-loop-taken
decreases-loop-taken g l = DELIVERY_LIMIT - l.taken
