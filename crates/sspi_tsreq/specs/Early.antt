-- The Early User Authorization Result PDU (MS-RDPBCGR 2.2.10.2): four bytes, the low one first.
use Rattle.std.specs.Prelude.{ℕ, ◌+◌, ◌*◌, ◌==◌, List, [], ◌∷◌, Option, None, Some, Ok, Err}
use Rattle.std.specs.Prelude.{if◌then◌else◌, slice_index}
use Rattle.sspi_ber.specs.Pieces.{Invalid, Read, ◌>>=◌, bytes_at}
use Rattle.sspi_tsreq.specs.declared.early.EarlyUserAuthResult.{EarlyUserAuthResult}
use Rattle.sspi_tsreq.specs.declared.early.EarlyUserAuthResult.TheVariants.{Success, AccessDenied}

-- AUTHZ_SUCCESS and AUTHZ_ACCESS_DENIED
abbrev pub number_of : EarlyUserAuthResult → ℕ
number_of Success = 0
number_of AccessDenied = 5

abbrev pub result_of : ℕ → Option EarlyUserAuthResult
result_of n = if n == 0 then Some Success else if n == 5 then Some AccessDenied else None

-- the number of four bytes, the low one first
abbrev pub little_endian : List ℕ → ℕ
little_endian bytes = slice_index bytes 0 + slice_index bytes 1 * 0x100 + slice_index bytes
    2 * 0x10000 + slice_index bytes 3 * 0x1000000

abbrev pub result_or_invalid : Option EarlyUserAuthResult → List ℕ → Read EarlyUserAuthResult
result_or_invalid None rest = Err Invalid
result_or_invalid (Some result) rest = Ok (result, rest)

-- the result that the bytes begin with; another number is invalid
unfoldable pub early_result_at : List ℕ → Read EarlyUserAuthResult
early_result_at bytes = do
  number ← bytes_at 4 bytes
  result_or_invalid (result_of (little_endian number.0)) number.1

-- how a result is encoded
abbrev pub early_result_text : EarlyUserAuthResult → List ℕ
early_result_text result = number_of result ∷ 0 ∷ 0 ∷ 0 ∷ []
