use Rattle.std.proofs.Common.{◌≡◌, ◌∙◌, ◌≤◌, Result, Ok, Err}
use Rattle.std.specs.Int.RustNames.{bit_and, bit_or}
use Rattle.sspi_types.specs.declared.error.Error.{Error}
use Rattle.sspi_types.specs.declared.security_buffer_type.SecurityBufferType.{SecurityBufferType}
use Rattle.sspi_types.specs.BufferTypes.{buffer_type_number}
use Rattle.sspi_types.specs.SecurityBufferTypes.{ReadsBufferType, packed_buffer_type}
use Rattle.sspi_types.proofs.BufferTypeBits.{parts_of_joined, joined_parts}
use Rattle.sspi_types.proofs.Numbers.{same_buffer_type}
use Rattle.sspi_types.proofs.laws.buffer_types_are_read_back.Goals as goal

there_and_back : (t : SecurityBufferType) → buffer_type_number t.buffer_type ≤ 18 →
    bit_and t.buffer_flags.0 0x90000000 ≡ t.buffer_flags.0 → (read : Result SecurityBufferType Error) →
    ReadsBufferType (packed_buffer_type t) read → read ≡ Ok t
there_and_back t low named (Ok other) reads =
    let parts = parts_of_joined (buffer_type_number t.buffer_type) t.buffer_flags.0 low named in
    let kind = same_buffer_type other.buffer_type t.buffer_type (reads.1 ∙ parts.1) in
    let flags : other.buffer_flags.0 ≡ t.buffer_flags.0 = reads.2 ∙ parts.2 in
    λ i. Ok (record { buffer_type = kind i; buffer_flags = record { 0 = flags i } })
there_and_back t low named (Err e) reads =
    absurd (reads.0 (parts_of_joined (buffer_type_number t.buffer_type) t.buffer_flags.0 low named).0)

pub returns-clause-there_and_back : goal.returns-clause-there_and_back
returns-clause-there_and_back c = there_and_back

pub returns-clause-back_and_there : goal.returns-clause-back_and_there
returns-clause-back_and_there c number small t reads =
    (λ i. bit_or (reads.1 i) (reads.2 i)) ∙ joined_parts number small
