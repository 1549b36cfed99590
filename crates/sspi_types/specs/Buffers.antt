-- Buffers, and how one is found among several.
use Rattle.std.specs.Prelude.{ℕ, List, Bool, None, Option, Result, ◌==◌, slice_set}
use Rattle.std.specs.Borrow.{LendsIf, LendsIfOk, MutBor, Fml, Array, RattleType}
use Rattle.std.specs.Vec.{with_item}
use Rattle.std.specs.contracts.vec.Vec as vec
use Rattle.std.specs.contracts.alloc.Global as global
use Rattle.std.specs.contracts.impls.GlobalAllocator.TheImpl.{ghosts}
use Rattle.std.specs.List.{position_or_len}
use Rattle.sspi_types.specs.declared.buffer.SecurityBuffer.{SecurityBuffer}
use Rattle.sspi_types.specs.declared.buffer_type.BufferType.{BufferType}
use Rattle.sspi_types.specs.declared.error.Error.{Error}
use Rattle.sspi_types.specs.declared.error_kind.ErrorKind.TheVariants.{InvalidToken}
use Rattle.sspi_types.specs.declared.reason.Reason.TheVariants.{NoBuffer}
use Rattle.sspi_types.specs.contracts.buffer.SecurityBuffer.{the_row}
use Rattle.sspi_types.specs.BufferTypes.{buffer_type_number}

-- a buffer with these bytes, of this type and without flags
abbrev pub unflagged_buffer : List ℕ → BufferType → SecurityBuffer
unflagged_buffer bytes type = record {
  buffer = bytes;
  buffer_type = record { buffer_type = type; buffer_flags = record { 0 = 0 } };
}

-- whether a buffer is of this type, whatever its flags
abbrev pub has_type : BufferType → SecurityBuffer → Bool
has_type type buffer = buffer_type_number buffer.buffer_type.buffer_type == buffer_type_number type

-- what a search answers if no buffer has the type
abbrev pub no_buffer : Error
no_buffer = record { error_type = InvalidToken; description = NoBuffer; nstatus = None }

-- at the end, the first buffer of the type is as the borrower left it; all else is as it was
abbrev pub LendsFirst : MutBor (List SecurityBuffer) → BufferType → Option (MutBor SecurityBuffer) →
    Fml
LendsFirst buffers type lent =
    LendsIf (Array the_row 0) the_row buffers lent
    (slice_set buffers.now (position_or_len (has_type type) buffers.now)) buffers.now

-- a list of buffers on the heap
abbrev pub list_row : RattleType
list_row = vec.the_row the_row global.the_row ghosts

-- the same for a list on the heap, by a call that refuses if there is none
abbrev pub LendsFound : MutBor list_row.Denot → BufferType → Result (MutBor SecurityBuffer) Error →
    Fml
LendsFound buffers type lent =
    LendsIfOk list_row the_row buffers lent
    (with_item buffers.now (position_or_len (has_type type) buffers.now.items)) buffers.now
