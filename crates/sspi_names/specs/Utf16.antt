-- UTF-16 (The Unicode Standard 3.9, D91; RFC 2781 2): the code units of a text, the text of code
-- units, and their bytes with the low byte first.
use Rattle.std.specs.Prelude.{◌≡◌, ◌+◌, ◌*◌, ◌/◌, ◌%◌, ◌==◌, ℕ, List, [], ◌∷◌, length, true, Result}
use Rattle.std.specs.Prelude.{Ok, Err, None, if◌then◌else◌}
use Rattle.std.specs.List.{flat_map}
use Rattle.std.specs.Str.{chars, all_scalars, encode_utf8_all}
use Rattle.std.specs.Char.Escape.{encode_utf16}
use Rattle.std.specs.Char.Utf16.{has_unpaired_surrogate, utf16_lossy_chars}
use Rattle.sspi_types.specs.declared.error.Error.{Error}
use Rattle.sspi_types.specs.declared.error_kind.ErrorKind.TheVariants.{InvalidParameter}
use Rattle.sspi_types.specs.declared.reason.Reason.TheVariants.{Utf}
use Rattle.sspi_types.specs.Errors.{memory_error}
use Rattle.sspi_names.specs.declared.error.Utf16Error.{Utf16Error}
use Rattle.sspi_names.specs.declared.error.Utf16Error.TheVariants.{OddLength, UnpairedSurrogate}
use Rattle.sspi_names.specs.declared.error.Utf16Error.TheVariants.{InsufficientMemory}

-- the code units of a text in UTF-8
unfoldable pub units_of : List ℕ → List ℕ
units_of text = flat_map encode_utf16 (chars text)

-- well-formed: the code units of some characters
pub record IsUtf16 (units : List ℕ) : Type 0 where
  pub characters : List ℕ
  pub scalars : all_scalars characters ≡ true
  pub spelled : units ≡ flat_map encode_utf16 characters

-- the text of well-formed code units, in UTF-8
unfoldable pub text_of : List ℕ → List ℕ
text_of units = encode_utf8_all (utf16_lossy_chars units)

-- the two bytes of a code unit, the low one first
abbrev pub unit_bytes : ℕ → List ℕ
unit_bytes u = (u % 256) ∷ (u / 256) ∷ []

unfoldable pub bytes_le : List ℕ → List ℕ
bytes_le units = flat_map unit_bytes units

-- the code units of bytes; a single last byte is dropped
unfoldable pub units_le : List ℕ → List ℕ
units_le [] = []
units_le (b ∷ []) = []
units_le (low ∷ high ∷ bytes) = (low + 256 * high) ∷ units_le bytes

-- the code units that bytes encode, or the refusal: an odd length before an unpaired surrogate
unfoldable pub decode_le : List ℕ → Result (List ℕ) Utf16Error
decode_le bytes =
    if length bytes % 2 == 0
    then (if has_unpaired_surrogate (units_le bytes) then Err UnpairedSurrogate
    else Ok (units_le bytes))
    else Err OddLength

-- exactly that text or that refusal; allocates only if there is a text
abbrev pub IsDecoded : Result (List ℕ) Utf16Error → Result (List ℕ) Utf16Error → Type 0
IsDecoded (Ok units) decoded = decoded ≡ Ok units
IsDecoded (Err OddLength) decoded = decoded ≡ Err OddLength
IsDecoded (Err UnpairedSurrogate) decoded = decoded ≡ Err UnpairedSurrogate
IsDecoded (Err InsufficientMemory) decoded = (units : List ℕ) × (decoded ≡ Ok units)

-- ---- what a refused text becomes

abbrev pub bad_text : Error
bad_text = record { error_type = InvalidParameter; description = Utf; nstatus = None }

abbrev pub utf16_refusal : Utf16Error → Error
utf16_refusal OddLength = bad_text
utf16_refusal UnpairedSurrogate = bad_text
utf16_refusal InsufficientMemory = memory_error
