-- Where a text is split: at its first LF, and at its first space.
use Rattle.std.proofs.Common.{◌≡◌, ℕ, ◌+◌, ◌<◌, Bool, true, false, List, [], ◌∷◌, length, Option, Some, None, refl, sym, ap, ◌∙◌, arith}
use Rattle.std.specs.List.{slice_split, onto_first, list_any, position_or_len, before_first, after_first}
use Rattle.std.specs.Option.{MatchOption}
use Rattle.std.specs.Borrow.{Bor}
use Rattle.std.proofs.lemmas.List.Splits.{slice_split-cons_no, slice_split_first}
use Rattle.std.specs.Prelude.{if◌then◌else◌}
use Rattle.std.proofs.lemmas.Bool.{false≢true, or_left, or_parts}
use Rattle.std.proofs.Math.Dec.{lit<}
use Rattle.std.proofs.Math.ListN.{drop_of_length-le}
use Rattle.std.proofs.lemmas.List.{take_all}
use Rattle.std.proofs.lemmas.Str.Pattern.{IsSplitOnceResult, split_once_first}
use Rattle.sspi_scenario.specs.Lines.{lines_of, is_line_feed, is_space, parted, before_space, after_space}

module _ (p : ℕ → Bool) where
  place-yes : (x : ℕ) (xs : List ℕ) → p x ≡ true → position_or_len p (x ∷ xs) ≡ 0
  place-yes x xs e = rw e refl

  place-no : (x : ℕ) (xs : List ℕ) → p x ≡ false → position_or_len p (x ∷ xs) ≡ 1 + position_or_len p xs
  place-no x xs e = rw e refl

  -- whether some element passes, by the first position
  none-cons : (x : ℕ) (xs : List ℕ) (b : Bool) → p x ≡ b → (position_or_len p xs ≡ length xs → list_any p xs ≡ false)
      → position_or_len p (x ∷ xs) ≡ length (x ∷ xs) → list_any p (x ∷ xs) ≡ false
  none-cons x xs true h more e = absurd (omega (arith, e, place-yes x xs h))
  none-cons x xs false h more e = rw h (more (omega (arith, e, place-no x xs h)))

  none-any : (xs : List ℕ) → position_or_len p xs ≡ length xs → list_any p xs ≡ false
  none-any [] e = refl
  none-any (x ∷ xs) e = none-cons x xs (p x) refl (none-any xs) e

  some-cons : (x : ℕ) (xs : List ℕ) (b : Bool) → p x ≡ b → (position_or_len p xs < length xs → list_any p xs ≡ true)
      → position_or_len p (x ∷ xs) < length (x ∷ xs) → list_any p (x ∷ xs) ≡ true
  some-cons x xs true h more e = rw h refl
  some-cons x xs false h more e = rw h (more (omega (arith, e, place-no x xs h)))

  some-any : (xs : List ℕ) → position_or_len p xs < length xs → list_any p xs ≡ true
  some-any [] e = absurd (omega (arith, e))
  some-any (x ∷ xs) e = some-cons x xs (p x) refl (some-any xs) e

  any-cons : (x : ℕ) (xs : List ℕ) (b : Bool) → p x ≡ b → (list_any p xs ≡ false → position_or_len p xs ≡ length xs)
      → list_any p (x ∷ xs) ≡ false → position_or_len p (x ∷ xs) ≡ length (x ∷ xs)
  any-cons x xs true h more e = absurd (false≢true (sym e ∙ or_left (p x) (list_any p xs) h))
  any-cons x xs false h more e =
      let rest = more (or_parts (p x) (list_any p xs) e).1 in omega (arith, place-no x xs h, rest)

  any-none : (xs : List ℕ) → list_any p xs ≡ false → position_or_len p xs ≡ length xs
  any-none [] e = refl
  any-none (x ∷ xs) e = any-cons x xs (p x) refl (any-none xs) e

  split-cons : (x : ℕ) (xs : List ℕ) (b : Bool) → p x ≡ b → (position_or_len p xs ≡ length xs → slice_split p xs ≡ xs ∷ [])
      → position_or_len p (x ∷ xs) ≡ length (x ∷ xs) → slice_split p (x ∷ xs) ≡ (x ∷ xs) ∷ []
  split-cons x xs true h more e = absurd (omega (arith, e, place-yes x xs h))
  split-cons x xs false h more e = slice_split-cons_no p x xs h ∙ ap (onto_first x) (more (omega (arith, e, place-no x xs h)))

  none-split : (xs : List ℕ) → position_or_len p xs ≡ length xs → slice_split p xs ≡ xs ∷ []
  none-split [] e = refl
  none-split (x ∷ xs) e = split-cons x xs (p x) refl (none-split xs) e

-- a text without LF is one line
pub one-line : (text : List ℕ) → IsSplitOnceResult 10 text None → lines_of text ≡ text ∷ []
one-line text h = none-split is_line_feed text (split_once_first 10 text None h (lit< tt))

pub first-line : (text : List ℕ) (parts : Bor (List ℕ) × Bor (List ℕ)) → IsSplitOnceResult 10 text (Some parts)
    → lines_of text ≡ parts.0.now ∷ lines_of parts.1.now
first-line text parts h =
    let cut = split_once_first 10 text (Some parts) h (lit< tt) in
    rw (cut.1, cut.2) (slice_split_first is_line_feed text 0 cut.0)

pub parted-none : (text : List ℕ) → IsSplitOnceResult 32 text None → parted text ≡ None
unfolding parted
parted-none text h = rw (none-any is_space text (split_once_first 32 text None h (lit< tt))) refl

pub parted-some : (text : List ℕ) (parts : Bor (List ℕ) × Bor (List ℕ)) → IsSplitOnceResult 32 text (Some parts)
    → parted text ≡ Some (parts.0.now, parts.1.now)
unfolding parted before_space after_space
parted-some text parts h =
    let cut = split_once_first 32 text (Some parts) h (lit< tt) in
    rw (some-any is_space text cut.0, cut.1, cut.2) refl

-- the only result of `parted`
pub parted-is : (text : List ℕ) (r : Option (Bor (List ℕ) × Bor (List ℕ))) → IsSplitOnceResult 32 text r
    → MatchOption r (parted text ≡ None) (λ parts. parted text ≡ Some (parts.0.now, parts.1.now))
parted-is text None h = parted-none text h
parted-is text (Some parts) h = parted-some text parts h

-- the parts on both sides of the first space, if `parted` says that there is one
abbrev Sides : List ℕ → Option (List ℕ × List ℕ) → Type 0
Sides text None = (text ≡ before_space text) × ([] ≡ after_space text)
Sides text (Some parts) = (parts.0 ≡ before_space text) × (parts.1 ≡ after_space text)

pub sides : (text : List ℕ) → Sides text (parted text)
unfolding parted before_space after_space
sides text = sides_at (list_any is_space text) refl where
  sides_at : (b : Bool) → list_any is_space text ≡ b
      → Sides text (if b then Some (before_first is_space text, after_first is_space text) else None)
  sides_at true h = (refl, refl)
  sides_at false h =
      let whole = any-none is_space text h in (
        sym (take_all (position_or_len is_space text) text (omega (arith, whole))),
        sym (drop_of_length-le text (omega (arith, whole))),
      )
