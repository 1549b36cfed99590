-- The lines of a text.
use Rattle.std.proofs.Common.{◌≡◌, ◌≢◌, ℕ, ◌+◌, Bool, true, false, List, [], ◌∷◌, ◌++◌, length}
use Rattle.std.proofs.Common.{Option, Some, None, refl, sym, ap, ◌∙◌, arith}
use Rattle.std.proofs.Common.{append_assoc}
use Rattle.std.specs.List.{slice_split, onto_first, position_or_len, flat_map}
use Rattle.std.specs.Borrow.{Bor}
use Rattle.std.proofs.lemmas.List.Splits.{slice_split-cons_no, slice_split-cons_yes}
use Rattle.std.proofs.lemmas.List.Splits.{slice_split_first}
use Rattle.std.proofs.Math.Dec.{lit<}
use Rattle.std.proofs.lemmas.Str.Pattern.{IsSplitOnceResult, split_once_first}
use Rattle.sspi_explain.specs.Explained.{is_line_feed, last_line, without_empty_end, lines_of}

module _ (p : ℕ → Bool) where
  place-yes : (x : ℕ) (xs : List ℕ) → p x ≡ true → position_or_len p (x ∷ xs) ≡ 0
  place-yes x xs e = rw e refl

  place-no : (x : ℕ) (xs : List ℕ) → p x ≡ false →
      position_or_len p (x ∷ xs) ≡ 1 + position_or_len p xs
  place-no x xs e = rw e refl

  split-cons : (x : ℕ) (xs : List ℕ) (b : Bool) → p x ≡ b →
      (position_or_len p xs ≡ length xs → slice_split p xs ≡ xs ∷ [])
      → position_or_len p (x ∷ xs) ≡ length (x ∷ xs) → slice_split p (x ∷ xs) ≡ (x ∷ xs) ∷ []
  split-cons x xs true h more e = absurd (omega (arith, e, place-yes x xs h))
  split-cons x xs false h more e = slice_split-cons_no p x xs h ∙
      ap (onto_first x) (more (omega (arith, e, place-no x xs h)))

  none-split : (xs : List ℕ) → position_or_len p xs ≡ length xs → slice_split p xs ≡ xs ∷ []
  none-split [] e = refl
  none-split (x ∷ xs) e = split-cons x xs (p x) refl (none-split xs) e

  -- there is at least one part
  first-part : (x : ℕ) (parts : List (List ℕ)) → onto_first x parts ≢ []
  first-part x [] = λ e. cc
  first-part x (part ∷ parts) = λ e. cc

  some-cons : (x : ℕ) (xs : List ℕ) (b : Bool) → p x ≡ b → slice_split p (x ∷ xs) ≢ []
  some-cons x xs true h = λ e. cc (slice_split-cons_yes p x xs h)
  some-cons x xs false h =
      λ e. first-part x (slice_split p xs) (sym (slice_split-cons_no p x xs h) ∙ e)

  some-part : (xs : List ℕ) → slice_split p xs ≢ []
  some-part [] = λ e. cc
  some-part (x ∷ xs) = some-cons x xs (p x) refl

more-lines : (line : List ℕ) (more : List (List ℕ)) → more ≢ [] →
    without_empty_end (line ∷ more) ≡ line ∷ without_empty_end more
more-lines line [] some = absurd (some refl)
more-lines line (next ∷ more) some = refl

last : (text : List ℕ) → text ≢ [] → last_line text ≡ text ∷ []
last [] some = absurd (some refl)
last (byte ∷ text) some = refl

-- a text is one line if it has no LF
pub one_line : (text : List ℕ) → text ≢ [] → IsSplitOnceResult 10 text None → lines_of text ≡ text ∷
    lines_of []
unfolding lines_of
one_line text some h =
    ap without_empty_end
    (none-split is_line_feed text (split_once_first 10 text None h (lit< tt))) ∙ last text some

pub first_line : (text : List ℕ) (parts : Bor (List ℕ) × Bor (List ℕ)) →
    IsSplitOnceResult 10 text (Some parts)
    → lines_of text ≡ parts.0.now ∷ lines_of parts.1.now
unfolding lines_of
first_line text parts h =
    let cut = split_once_first 10 text (Some parts) h (lit< tt) in
    let split : slice_split is_line_feed text ≡ parts.0.now ∷ slice_split is_line_feed parts.1.now =
    rw (cut.1, cut.2) (slice_split_first is_line_feed text 0 cut.0) in
    ap without_empty_end split
    ∙ more-lines parts.0.now (slice_split is_line_feed parts.1.now)
    (some-part is_line_feed parts.1.now)

-- the lines explained so far, before one more
pub next_line : (f : List ℕ → List ℕ) (told : List ℕ) (text line after : List ℕ) →
    lines_of text ≡ line ∷ lines_of after
    → (told ++ f line) ++ flat_map f (lines_of after) ≡ told ++ flat_map f (lines_of text)
next_line f told text line after e = rw e (append_assoc told (f line) (flat_map f (lines_of after)))
