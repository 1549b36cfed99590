-- A written early user authorization result is read back.
use Rattle.std.proofs.Common.{◌≡◌, ℕ, List, ◌++◌, length, Some, Ok, refl, ap}
use Rattle.sspi_ber.specs.Pieces.{Read, ◌>>=◌, bytes_at}
use Rattle.sspi_ber.proofs.PiecesMatch.{bytes_match}
use Rattle.sspi_tsreq.specs.declared.early.EarlyUserAuthResult.{EarlyUserAuthResult}
use Rattle.sspi_tsreq.specs.declared.early.EarlyUserAuthResult.TheVariants.{Success, AccessDenied}
use Rattle.sspi_tsreq.specs.Early.{early_result_at, early_result_text, little_endian, number_of, result_of, result_or_invalid}

abbrev judged : List ℕ × List ℕ → Read EarlyUserAuthResult
judged number = result_or_invalid (result_of (little_endian number.0)) number.1

four_bytes : (text more : List ℕ) → length text ≡ 4 → bytes_at 4 (text ++ more) ≡ Ok (text, more)
four_bytes text more long = (bytes_match 4).again text text more (refl, long)

pub read_back : (r : EarlyUserAuthResult) (more : List ℕ) → early_result_at (early_result_text r ++ more) ≡ Ok (r, more)
unfolding early_result_at
read_back Success more = ap (λ (z : Read (List ℕ)). z >>= judged) (four_bytes (early_result_text Success) more refl)
read_back AccessDenied more = ap (λ (z : Read (List ℕ)). z >>= judged) (four_bytes (early_result_text AccessDenied) more refl)

pub number_back : (r : EarlyUserAuthResult) → result_of (number_of r) ≡ Some r
number_back Success = refl
number_back AccessDenied = refl
