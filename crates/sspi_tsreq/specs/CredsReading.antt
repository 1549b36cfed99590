-- What the steps of reading TSCredentials promise each other.
use Rattle.std.specs.Prelude.{◌≡◌, ◌&&◌, Bool, Result, Ok, Err}
use Rattle.std.specs.Result.{is_ok}
use Rattle.sspi_types.specs.declared.error.Error.{Error}
use Rattle.sspi_names.specs.Utf16.{bad_text, decode_le}
use Rattle.sspi_names.specs.declared.credentials.CredentialsBuffers.{CredentialsBuffers}
use Rattle.sspi_ber.specs.Kinds.{error_of}
use Rattle.sspi_ber.specs.declared.wire_kind.WireKind.{WireKind}
use Rattle.sspi_ber.specs.declared.wire_kind.WireKind.TheVariants.{UnexpectedEof, InvalidData}
use Rattle.sspi_ber.specs.declared.wire_kind.WireKind.TheVariants.{ReadFault, WriteFault}
use Rattle.sspi_ber.specs.declared.wire_kind.WireKind.TheVariants.{InsufficientMemory}
use Rattle.sspi_tsreq.specs.Creds.{malformed, Passwords}

-- exactly this answer, with the value seen by view
abbrev pub Is : {X A : Type 0} → (X → A) → Result X Error → Result A Error → Type 0
Is view (Ok x) answer = answer ≡ Ok (view x)
Is view (Err error) answer = answer ≡ Err error

-- no refusal that comes before the texts are copied
abbrev pub IsLate : Result CredentialsBuffers Error → Type 0
IsLate (Ok buffers) = Unit {0}
IsLate (Err error) = error ≡ bad_text

-- what a caller sees of a fault of reading: a malformed structure, or a fault from outside
abbrev pub refusal_by : WireKind → Error
refusal_by UnexpectedEof = malformed
refusal_by InvalidData = malformed
refusal_by ReadFault = error_of ReadFault
refusal_by WriteFault = error_of WriteFault
refusal_by InsufficientMemory = error_of InsufficientMemory

-- whether each of them is a text
abbrev pub are_texts : Passwords → Bool
are_texts texts = is_ok (decode_le texts.domain) &&
    (is_ok (decode_le texts.user) && is_ok (decode_le texts.password))
