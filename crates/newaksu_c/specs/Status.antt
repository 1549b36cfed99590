-- The numbers that calls return.
use Rattle.std.specs.Prelude.{ℕ, ◌==◌, if◌then◌else◌}
use Rattle.sspi_ber.specs.declared.wire_kind.WireKind.{WireKind}
use Rattle.sspi_ber.specs.declared.wire_kind.WireKind.TheVariants.{UnexpectedEof, InvalidData}
use Rattle.sspi_ber.specs.declared.wire_kind.WireKind.TheVariants.{ReadFault, WriteFault}
use Rattle.sspi_ber.specs.declared.wire_kind.WireKind.TheVariants.{InsufficientMemory}

abbrev pub ok : ℕ
ok = 0

abbrev pub absent : ℕ
absent = 6

-- SEC_E_INVALID_HANDLE, SEC_E_BUFFER_TOO_SMALL, SEC_E_INVALID_PARAMETER, SEC_E_INSUFFICIENT_MEMORY
-- and SEC_E_INTERNAL_ERROR of winerror.h
abbrev pub invalid_handle : ℕ
invalid_handle = 0x80090301

abbrev pub buffer_too_small : ℕ
buffer_too_small = 0x80090321

abbrev pub invalid_parameter : ℕ
invalid_parameter = 0x8009035d

abbrev pub insufficient_memory : ℕ
insufficient_memory = 0x80090300

abbrev pub internal_error : ℕ
internal_error = 0x80090304

-- the status for a refusal by the codec of TSRequest
abbrev pub wire_status : WireKind → ℕ
wire_status UnexpectedEof = 1
wire_status InvalidData = 2
wire_status ReadFault = 3
wire_status WriteFault = 4
wire_status InsufficientMemory = insufficient_memory

-- the status of releasing an object of this kind; 0 is none
abbrev pub released : ℕ → ℕ
released kind = if kind == 0 then invalid_handle else ok
