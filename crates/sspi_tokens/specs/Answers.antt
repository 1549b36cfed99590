-- What the calls on tokens answer.
use Rattle.std.specs.Prelude.{◌≡◌, ℕ, List, Option, None, Some, Result, Ok, Err}
use Rattle.std.specs.Global.{Vec}
use Rattle.sspi_types.specs.Errors.{memory_error}
use Rattle.sspi_types.specs.declared.error.Error.{Error}
use Rattle.sspi_types.specs.declared.error_kind.ErrorKind.TheVariants.{InvalidToken, InternalError}
use Rattle.sspi_types.specs.declared.reason.Reason.TheVariants.{TokenForm, TooLong}

-- the bytes do not begin with such a token
abbrev pub malformed : Error
malformed = record { error_type = InvalidToken; description = TokenForm; nstatus = None }

-- a length passes the limit
abbrev pub too_long : Error
too_long = record { error_type = InternalError; description = TooLong; nstatus = None }

-- The token that the bytes begin with, or out of memory; exactly `malformed` if they do not begin
-- with one.
abbrev pub ReadsAs : {T : Type 0} → Option T → Result T Error → Type 0
ReadsAs (Some token) (Ok x) = x ≡ token
ReadsAs (Some token) (Err error) = error ≡ memory_error
ReadsAs None (Ok x) = ⊥
ReadsAs None (Err error) = error ≡ malformed

-- the encoding, or out of memory; `too_long` if there is no encoding
abbrev pub WritesAs : Option (List ℕ) → Result (Vec ℕ) Error → Type 0
WritesAs (Some text) (Ok bytes) = bytes.items ≡ text
WritesAs (Some text) (Err error) = error ≡ memory_error
WritesAs None (Ok bytes) = ⊥
WritesAs None (Err error) = error ≡ too_long
