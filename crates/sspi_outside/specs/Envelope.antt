-- What the host of an `Outside` passes in: an envelope in place of a token, and sixteen zeros and
-- the text in place of a sealed blob.
--
--     step    = %x00 token            the context has ended
--             / %x01 token            it goes on
--             / %x02 4OCTET           it refused the step, with a code of winerror.h
--             / %x03 token            it goes on, and is user-to-user or in DCE style
--     client  = step
--     server  = 2OCTET name step      the length in bytes and the peer's name in UTF-16, if known
--
-- The low byte of each number comes first.
use Rattle.std.specs.Prelude.{◌≡◌, ℕ, ◌+◌, ◌*◌, ◌==◌, List, [], ◌∷◌, take, drop, length, replicate}
use Rattle.std.specs.Prelude.{nat_lt}
use Rattle.std.specs.Prelude.{Option, None, Some, unwrap_or, Result, Ok, Err, if◌then◌else◌}
use Rattle.std.specs.Int.{w32, from_le_bytes}
use Rattle.std.specs.Str.{bytes_eq}
use Rattle.sspi_types.specs.declared.error_kind.ErrorKind.{ErrorKind}
use Rattle.sspi_types.specs.declared.error_kind.ErrorKind.TheVariants.{InvalidToken}
use Rattle.sspi_types.specs.Errors.{error_kind_number}
use Rattle.sspi_types.specs.Numbers.{ReadsNumber}
use Rattle.sspi_names.specs.declared.error.Utf16Error.{Utf16Error}
use Rattle.sspi_names.specs.Name.{Name, parse_name}
use Rattle.sspi_names.specs.Utf16.{decode_le, text_of}

-- ---- a step

-- what an envelope says about the step that the host's context made
pub data Said : Type 0 where
  Ended : List ℕ → Said
  GoesOn : List ℕ → Said
  -- it goes on, and authenticates user-to-user or in DCE style
  UserToUser : List ℕ → Said
  Denied : ℕ → Said
  Unsaid : Said

abbrev pub denied_by : List ℕ → Said
denied_by code = if length code == 4 then Denied (from_le_bytes w32 code) else Unsaid

abbrev pub said_by : ℕ → List ℕ → Said
said_by status rest = if status == 0 then Ended rest else if status == 1 then GoesOn rest
    else if status == 2 then denied_by rest else if status == 3 then UserToUser rest else Unsaid

unfoldable pub said : List ℕ → Said
said [] = Unsaid
said (status ∷ rest) = said_by status rest

-- the kind that a code names, and InvalidToken if it names none
abbrev pub IsKindOf : ℕ → ErrorKind → Type 0
IsKindOf code kind = (read : Option ErrorKind) × ReadsNumber error_kind_number code read ×
    (kind ≡ unwrap_or read InvalidToken)

-- ---- what a server's envelope begins with

pub record Introduced : Type 0 where
  pub name : List ℕ
  pub step : List ℕ

abbrev pub introduced_at : ℕ → List ℕ → Option Introduced
introduced_at n rest = if nat_lt (length rest) n then None
    else Some (record { name = take n rest; step = drop n rest })

unfoldable pub introduced : List ℕ → Option Introduced
introduced [] = None
introduced (low ∷ []) = None
introduced (low ∷ high ∷ rest) = introduced_at (low + 256 * high) rest

-- the name in these UTF-16 units, if they are a name
abbrev pub name_of_units : Result (List ℕ) Utf16Error → Option Name
name_of_units (Ok units) = parse_name (text_of units)
name_of_units (Err error) = None

abbrev pub name_of : List ℕ → Option Name
name_of bytes = name_of_units (decode_le bytes)

-- ---- a blob

abbrev pub no_tag : List ℕ
no_tag = replicate 16 0

-- the text that the host opened, if the blob says that it did
unfoldable pub text_in : List ℕ → Option (List ℕ)
text_in blob = if bytes_eq (take 16 blob) no_tag then Some (drop 16 blob) else None
