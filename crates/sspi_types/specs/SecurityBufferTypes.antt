-- A buffer's type and flags as one number.
use Rattle.std.specs.Prelude.{◌≡◌, ◌≤◌, ℕ, Result, Ok, Err}
use Rattle.std.specs.Int.RustNames.{bit_and, bit_or}
use Rattle.sspi_types.specs.declared.error.Error.{Error}
use Rattle.sspi_types.specs.declared.reason.Reason.TheVariants.{Number}
use Rattle.sspi_types.specs.declared.security_buffer_type.SecurityBufferType.{SecurityBufferType}
use Rattle.sspi_types.specs.BufferTypes.{buffer_type_number}
use Rattle.sspi_types.specs.Errors.{internal_error}

-- the type that a number has in its low 28 bits, and the flags that it has in its high 4 (sspi.h,
-- SECBUFFER_ATTRMASK)
abbrev pub type_bits : ℕ → ℕ
type_bits number = bit_and number 0x0fffffff

abbrev pub flag_bits : ℕ → ℕ
flag_bits number = bit_and number 0xf0000000

-- a number that can be read: its type is one of 0 to 18, and of its high bits only READONLY and
-- READONLY_WITH_CHECKSUM are set
abbrev pub IsBufferTypeNumber : ℕ → Type 0
IsBufferTypeNumber number = (type_bits number ≤ 18) × (bit_and number 0x60000000 ≡ 0)

-- what reading a number gives: both parts of one that can be read, else a refusal
abbrev pub ReadsBufferType : ℕ → Result SecurityBufferType Error → Type 0
ReadsBufferType number (Ok read) =
    IsBufferTypeNumber number × (buffer_type_number read.buffer_type ≡ type_bits number) ×
    (read.buffer_flags.0 ≡ flag_bits number)
ReadsBufferType number (Err error) = (¬ IsBufferTypeNumber number) × (error ≡ internal_error Number)

-- both parts as one number
abbrev pub packed_buffer_type : SecurityBufferType → ℕ
packed_buffer_type t = bit_or (buffer_type_number t.buffer_type) t.buffer_flags.0
