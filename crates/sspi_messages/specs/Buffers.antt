-- Which buffers a call takes: the first one without flags of each type that it names. It neither
-- reads nor changes the others.
use Rattle.std.specs.Prelude.{ℕ, List, [], ◌∷◌, Bool, ◌==◌, ◌&&◌, cond, Option, None, Some}
use Rattle.std.specs.Prelude.{option_map, find}
use Rattle.sspi_types.specs.declared.buffer.SecurityBuffer.{SecurityBuffer}
use Rattle.sspi_types.specs.declared.buffer_type.BufferType.{BufferType}
use Rattle.sspi_types.specs.Buffers.{has_type}

-- whether a buffer is of this type and has no flags
abbrev pub is_unflagged : BufferType → SecurityBuffer → Bool
is_unflagged type buffer = has_type type buffer && (buffer.buffer_type.buffer_flags.0 == 0)

abbrev pub first_unflagged : BufferType → List SecurityBuffer → Option SecurityBuffer
first_unflagged type message = find (is_unflagged type) message

-- the bytes of the buffer that is taken
abbrev pub bytes_in : BufferType → List SecurityBuffer → Option (List ℕ)
bytes_in type message = option_map (λ buffer. buffer.buffer) (first_unflagged type message)

-- the message with these bytes in the buffer that is taken
abbrev pub with_bytes : BufferType → List ℕ → List SecurityBuffer → List SecurityBuffer
with_bytes type bytes [] = []
with_bytes type bytes (buffer ∷ rest) =
    cond (is_unflagged type buffer) (record buffer { buffer = bytes } ∷ rest)
    (buffer ∷ with_bytes type bytes rest)

-- two things, if both are there
abbrev pub pair_of : {A B : Type 0} → Option A → Option B → Option (A × B)
pair_of None b = None
pair_of (Some a) None = None
pair_of (Some a) (Some b) = Some (a, b)
