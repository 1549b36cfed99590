-- A number as `parse` reads it.
use Rattle.std.proofs.Common.{◌≡◌, ◌≢◌, ℕ, ◌^◌, ◌<◌, ◌≤◌, true, false, not, ◌&&◌, leb, eqb, List, [], ◌∷◌, length, get_or, Some, None}
use Rattle.std.proofs.Common.{Result, Ok, Err, refl, ap, arith}
use Rattle.std.specs.Char.{is_ascii_digit}
use Rattle.std.specs.Result.{OkIff, result_ok}
use Rattle.std.specs.Str.{all_ascii_digits}
use Rattle.std.specs.Str.Parse.{ParsesUnsigned, digits_value}
use Rattle.std.proofs.lemmas.Bool.{false≢true, and_from, and_left, and_parts, false_from_ne_true, not_from_true, not_from_false}
use Rattle.std.proofs.lemmas.Bool.{eq-eqb, ne_eqb, le-leb, leb-true}
use Rattle.std.proofs.lemmas.Str.Parse.{IsNumeralModel, numerals_by_value, tells_all_ascii_digits, parse_plain}
use Rattle.sspi_scenario.specs.Numbers.{is_decimal, number_of}

pub own : IsNumeralModel (λ ds. all_ascii_digits ds ≡ true) (digits_value 10)
own = numerals_by_value (λ ds. all_ascii_digits ds ≡ true) tells_all_ascii_digits

decimal-digits : (bs : List ℕ) → is_decimal bs ≡ true → all_ascii_digits bs ≡ true
decimal-digits [] e = refl
decimal-digits (d ∷ []) e = and_from (is_ascii_digit d) true e refl
decimal-digits (d ∷ next ∷ more) e = (and_parts (not (eqb d 48)) (all_ascii_digits (d ∷ next ∷ more)) e).1

digits-decimal : (bs : List ℕ) → 0 < length bs → (1 < length bs → get_or bs 0 0 ≡ 48 → ⊥) → all_ascii_digits bs ≡ true →
    is_decimal bs ≡ true
digits-decimal [] some unpadded e = absurd (omega (arith, some))
digits-decimal (d ∷ []) some unpadded e = (and_parts (is_ascii_digit d) true e).0
digits-decimal (d ∷ next ∷ more) some unpadded e =
    and_from (not (eqb d 48)) (all_ascii_digits (d ∷ next ∷ more)) (not_from_false (eqb d 48) (ne_eqb d 48 (unpadded (omega arith)))) e

head-digit : (bs : List ℕ) → 0 < length bs → all_ascii_digits bs ≡ true → is_ascii_digit (get_or bs 0 0) ≡ true
head-digit [] some e = absurd (omega (arith, some))
head-digit (d ∷ more) some e = (and_parts (is_ascii_digit d) (all_ascii_digits more) e).0

not-decimal : (bs : List ℕ) → is_decimal bs ≡ false → None ≡ number_of bs
unfolding number_of
not-decimal bs e = rw e refl

pub empty-number : (bs : List ℕ) → length bs ≡ 0 → None ≡ number_of bs
empty-number [] e = not-decimal [] refl
empty-number (d ∷ more) e = absurd (omega (arith, e))

pub plus-number : (bs : List ℕ) → 0 < length bs → get_or bs 0 0 ≡ 43 → None ≡ number_of bs
plus-number bs some plus = not-decimal bs (false_from_ne_true (is_decimal bs) (λ e.
    false≢true (rw plus at (head-digit bs some (decimal-digits bs e)))))

pub zero-number : (bs : List ℕ) → 1 < length bs → get_or bs 0 0 ≡ 48 → None ≡ number_of bs
zero-number [] long zero_first = absurd (omega (arith, long))
zero-number (d ∷ []) long zero_first = absurd (omega (arith, long))
zero-number (d ∷ next ∷ more) long zero_first =
    not-decimal (d ∷ next ∷ more)
    (and_left (not (eqb d 48)) (all_ascii_digits (d ∷ next ∷ more)) (not_from_true (eqb d 48) (eq-eqb d 48 zero_first)))

module _ {E : Type 0} (bs : List ℕ) where
  number-ok : (r : Result ℕ E) → (0 < length bs) → (1 < length bs → get_or bs 0 0 ≡ 48 → ⊥)
      → OkIff r ((all_ascii_digits bs ≡ true) × (0 < length bs) × (digits_value 10 bs < 2 ^ 32)) (digits_value 10 bs) →
      result_ok r ≡ number_of bs
  unfolding number_of
  number-ok (Ok n) some unpadded h =
      let fits : digits_value 10 bs ≤ 4294967295 = omega (arith, h.0.2) in
      rw (digits-decimal bs some unpadded h.0.0, le-leb (digits_value 10 bs) 4294967295 fits) (ap Some h.1)
  number-ok (Err e) some unpadded h =
      let refused = false_from_ne_true (is_decimal bs && leb (digits_value 10 bs) 4294967295) (λ t.
      let parts = and_parts (is_decimal bs) (leb (digits_value 10 bs) 4294967295) t in
      let fits = leb-true (digits_value 10 bs) 4294967295 parts.1 in
      h (decimal-digits bs parts.0, some, omega (arith, fits))) in
      rw refused refl

  -- without a plus or a leading zero, `parse` gives the number
  pub number-parsed : (r : Result ℕ E) → ParsesUnsigned 32 10 bs r → get_or bs 0 0 ≢ 43 → 0 < length bs →
      (1 < length bs → get_or bs 0 0 ≡ 48 → ⊥)
      → result_ok r ≡ number_of bs
  number-parsed r parses plus some unpadded = number-ok r some unpadded (parse_plain own 32 bs r parses plus)
