-- The two buffers that a call lends at once.
use Rattle.std.specs.Prelude.{List, Option, slice_set}
use Rattle.std.specs.Borrow.{LendsBothIf, MutBor, Fml, Array}
use Rattle.std.specs.List.{position_or_len}
use Rattle.sspi_types.specs.declared.buffer.SecurityBuffer.{SecurityBuffer}
use Rattle.sspi_types.specs.declared.buffer_type.BufferType.{BufferType}
use Rattle.sspi_types.specs.contracts.buffer.SecurityBuffer.{the_row}
use Rattle.sspi_messages.specs.Buffers.{is_unflagged}

-- the message ends with the two buffers as they were left
abbrev pub LendsPair : MutBor (List SecurityBuffer) → BufferType → BufferType →
    Option (MutBor SecurityBuffer × MutBor SecurityBuffer) → Fml
LendsPair message first second lent =
    LendsBothIf (Array the_row 0) the_row the_row message lent
    (λ a b. slice_set (slice_set message.now (position_or_len (is_unflagged first) message.now) a)
    (position_or_len (is_unflagged second) message.now) b)
    message.now
