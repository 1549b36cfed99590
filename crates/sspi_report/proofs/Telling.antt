-- What the lines of an entry show.
use Rattle.std.proofs.Common.{◌≡◌, ◌≢◌, ℕ, ◌/◌, ◌<◌, List, [], ◌∷◌, ◌++◌, suc, slice_index, Some, refl, sym, ap, ◌∙◌, append_assoc, arith}
use Rattle.hex.specs.Hex.{IsBytes, encode_lower, encode_with, hex_digit_value, lower_digits, decode_of}
use Rattle.hex.proofs.HexLemmas.{IsDigits-lower_digits, decode_of-encode_lower, decode_of-same}
use Rattle.sspi_delegate.specs.declared.carried.Carried.{Carried}
use Rattle.sspi_credssp.specs.declared.turn.End.{End}
use Rattle.sspi_credssp.specs.declared.turn.End.TheVariants.{Client, Server}
use Rattle.sspi_report.specs.Entries.{delivered_text, entry_text, line, mark}

-- no digit is LF
digit_no_lf : (n : ℕ) → n < 16 → slice_index lower_digits n ≢ 10
digit_no_lf n small e =
    let digit : hex_digit_value (slice_index lower_digits n) ≡ Some n = IsDigits-lower_digits n small in
    let none : hex_digit_value 10 ≡ Some n = rw e at digit in
    (cc)

high : (b : ℕ) → b < 256 → b / 16 < 16
high b small = omega arith

-- the digits before the first LF determine the bytes
same_digits : (xs ys more more2 : List ℕ) → IsBytes xs → IsBytes ys →
    encode_lower xs ++ 10 ∷ more ≡ encode_lower ys ++ 10 ∷ more2 → encode_lower xs ≡ encode_lower ys
unfolding encode_with
same_digits [] [] more more2 fits fits2 e = refl
same_digits [] (c ∷ ys) more more2 fits fits2 e =
    let first : slice_index lower_digits (c / 16) ≡ 10 = cc in
    absurd (digit_no_lf (c / 16) (high c (fits2 0)) first)
same_digits (b ∷ xs) [] more more2 fits fits2 e =
    let first : slice_index lower_digits (b / 16) ≡ 10 = cc in
    absurd (digit_no_lf (b / 16) (high b (fits 0)) first)
same_digits (b ∷ xs) (c ∷ ys) more more2 fits fits2 e =
    let rest : encode_lower xs ++ 10 ∷ more ≡ encode_lower ys ++ 10 ∷ more2 = cc in
    let ih : encode_lower xs ≡ encode_lower ys =
    same_digits xs ys more more2 (λ k. fits (suc k)) (λ k. fits2 (suc k)) rest in
    cc

same_bytes : (xs ys more more2 : List ℕ) → IsBytes xs → IsBytes ys →
    encode_lower xs ++ 10 ∷ more ≡ encode_lower ys ++ 10 ∷ more2 → xs ≡ ys
same_bytes xs ys more more2 fits fits2 e =
    decode_of-same (encode_lower xs) xs ys (decode_of-encode_lower xs fits)
    (ap decode_of (same_digits xs ys more more2 fits fits2 e) ∙ decode_of-encode_lower ys fits2)

marks_differ : slice_index (mark Client) 0 ≢ slice_index (mark Server) 0
marks_differ e = absurd (omega arith)

-- the end and the bytes of a first line, whatever follows
same_line : (from from2 : End) (xs ys more more2 : List ℕ) → IsBytes xs → IsBytes ys →
    line (mark from ++ encode_lower xs) ++ more ≡ line (mark from2 ++ encode_lower ys) ++ more2 → (from ≡ from2) × (xs ≡ ys)
same_line Client Client xs ys more more2 fits fits2 e =
    let rest : (encode_lower xs ++ 10 ∷ []) ++ more ≡ (encode_lower ys ++ 10 ∷ []) ++ more2 = cc in
    (refl, same_bytes xs ys more more2 fits fits2 (simp append_assoc at rest))
same_line Server Server xs ys more more2 fits fits2 e =
    let rest : (encode_lower xs ++ 10 ∷ []) ++ more ≡ (encode_lower ys ++ 10 ∷ []) ++ more2 = cc in
    (refl, same_bytes xs ys more more2 fits fits2 (simp append_assoc at rest))
same_line Client Server xs ys more more2 fits fits2 e = absurd (marks_differ (ap (λ (text : List ℕ). slice_index text 0) e))
same_line Server Client xs ys more more2 fits fits2 e = absurd (marks_differ (sym (ap (λ (text : List ℕ). slice_index text 0) e)))

pub same_entry : (first second : Carried) (more more2 : List ℕ) → IsBytes first.sent → IsBytes second.sent →
    entry_text first ++ more ≡ entry_text second ++ more2 → (first.from ≡ second.from) × (first.sent ≡ second.sent)
same_entry first second more more2 fits fits2 e =
    same_line first.from second.from first.sent second.sent (delivered_text first.sent first.delivered ++ more)
    (delivered_text second.sent second.delivered ++ more2) fits fits2
    (sym (append_assoc (line (mark first.from ++ encode_lower first.sent)) (delivered_text first.sent first.delivered) more)
    ∙ e
    ∙ append_assoc (line (mark second.from ++ encode_lower second.sent)) (delivered_text second.sent second.delivered) more2)
