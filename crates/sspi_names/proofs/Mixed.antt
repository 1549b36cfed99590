-- `parse_name` gives no name exactly for the texts that mix the forms.
use Rattle.std.proofs.Common.{◌≡◌, ◌⊎◌, inl, inr, ℕ, List, Bool, true, false, if◌then◌else◌, Some, None, refl}
use Rattle.std.specs.List.{after_first}
use Rattle.std.proofs.lemmas.Bool.{cases_Bool}
use Rattle.sspi_names.specs.Name.{Name, parse_name, backslash, has_at_sign, has_backslash, is_backslash}
use Rattle.sspi_names.specs.Grammar.{IsMixed}
use Rattle.sspi_names.proofs.Parse.{mixed, none-drop}

-- the text after the first `\` has another only if there is a first
pub behind_first : (text : List ℕ) → has_backslash (after_first is_backslash text) ≡ true → has_backslash text ≡ true
behind_first text twice = elim (cases_Bool (has_backslash text)) [
  | inl some ↦ some
  | inr none ↦
      let gone : has_backslash (after_first is_backslash text) ≡ false = none-drop text backslash _ none in
      absurd (cc (twice, gone))
]

-- the tests of `parse_name`
tested : (at bs twice : Bool) (x y z : Name) →
    (if at then (if bs then None else Some x) else if bs then (if twice then None else Some y) else Some z) ≡ None →
    ((at ≡ true) × (bs ≡ true)) ⊎ (twice ≡ true)
tested true true twice x y z e = inl (refl, refl)
tested true false twice x y z e = absurd (cc e)
tested false true true x y z e = inr refl
tested false true false x y z e = absurd (cc e)
tested false false twice x y z e = absurd (cc e)

pub none_is_mixed : (text : List ℕ) → parse_name text ≡ None → IsMixed text
unfolding parse_name
none_is_mixed text e = tested (has_at_sign text) (has_backslash text) (has_backslash (after_first is_backslash text)) _ _ _ e

twice_refused : (text : List ℕ) → has_backslash (after_first is_backslash text) ≡ true → parse_name text ≡ None
unfolding parse_name
twice_refused text twice = elim (cases_Bool (has_at_sign text)) [
  | inl at ↦ rw (at, behind_first text twice)
  | inr at ↦ rw (at, behind_first text twice, twice)
]

pub mixed_is_none : (text : List ℕ) → IsMixed text → parse_name text ≡ None
mixed_is_none text (inl both) = mixed text both.0 both.1
mixed_is_none text (inr twice) = twice_refused text twice
