-- The parts of a UTF-8 text between ASCII characters are UTF-8.
use Rattle.std.proofs.Common.{◌≡◌, ℕ, ◌+◌, ◌<◌, ◌≤◌, arith, Bool, true, false, List, [], ◌∷◌, ◌++◌, length, length-append, get_or}
use Rattle.std.proofs.Common.{refl, ap, sym, subst, ◌⊎◌, inl, inr}
use Rattle.std.specs.Str.{IsUtf8}
use Rattle.std.specs.List.{slice_split, onto_first, position_or_len, before_first, after_first}
use Rattle.std.proofs.Math.ListN.{drop_of_length-le}
use Rattle.std.proofs.Math.Seq.{take-append_seam, drop-append-add, get_or-append_seam}
use Rattle.std.proofs.lemmas.Bool.{eqb-true, cases_lt}
use Rattle.std.proofs.lemmas.List.{append_assoc, append-nil}
use Rattle.std.proofs.lemmas.List.Splits.{slice_split-cons_yes, slice_split-cons_no}
use Rattle.std.proofs.lemmas.List.Sums.{split_at_first, passes_at_first}
use Rattle.std.proofs.lemmas.Str.{IsUtf8-nil, IsUtf8-take, IsUtf8-drop, IsCharBoundary-before_ascii, IsCharBoundary-after_ascii}
use Rattle.sspi_scenario.specs.Lines.{lines_of, is_line_feed, is_space, after_space}

module _ (xs : List ℕ) (y : ℕ) (ys : List ℕ) (ascii : y < 128) (text : IsUtf8 (xs ++ y ∷ ys)) where
  at : get_or (xs ++ y ∷ ys) (length xs) 0 < 128
  at = rw (get_or-append_seam xs y ys 0) ascii

  within : length xs < length (xs ++ y ∷ ys)
  within = omega (arith, length-append xs (y ∷ ys))

  -- before and after an ASCII character
  before_utf8 : IsUtf8 xs
  before_utf8 =
      subst IsUtf8 (take-append_seam xs (y ∷ ys))
      (IsUtf8-take (xs ++ y ∷ ys) (length xs) text (IsCharBoundary-before_ascii (xs ++ y ∷ ys) (length xs) within at))

  behind_utf8 : IsUtf8 ys
  behind_utf8 =
      subst IsUtf8 (drop-append-add xs (y ∷ ys) 1)
      (IsUtf8-drop (xs ++ y ∷ ys) (length xs + 1) text (IsCharBoundary-after_ascii (xs ++ y ∷ ys) (length xs) text within at))

-- each of some texts is UTF-8
abbrev pub AreUtf8 : List (List ℕ) → Type 0
AreUtf8 [] = Unit {0}
AreUtf8 (text ∷ texts) = IsUtf8 text × AreUtf8 texts

-- a text prepended to the first of some
abbrev led : List ℕ → List (List ℕ) → List (List ℕ)
led front [] = front ∷ []
led front (part ∷ parts) = (front ++ part) ∷ parts

unled : (parts : List (List ℕ)) → AreUtf8 (led [] parts) → AreUtf8 parts
unled [] texts = tt
unled (part ∷ parts) texts = texts

led-more : (front : List ℕ) (x : ℕ) (parts : List (List ℕ)) → led front (onto_first x parts) ≡ led (front ++ x ∷ []) parts
led-more front x [] = refl
led-more front x (part ∷ parts) = ap (λ (p : List ℕ). p ∷ parts) (sym (append_assoc front (x ∷ []) part))

feed-ascii : (x : ℕ) → is_line_feed x ≡ true → x < 128
feed-ascii x e = let is : x ≡ 10 = eqb-true x 10 e in omega (arith, is)

split-at : (xs : List ℕ) → ((front : List ℕ) → IsUtf8 (front ++ xs) → AreUtf8 (led front (slice_split is_line_feed xs))) →
    (front : List ℕ) (x : ℕ) (b : Bool) →
    is_line_feed x ≡ b → IsUtf8 (front ++ x ∷ xs) → AreUtf8 (led front (slice_split is_line_feed (x ∷ xs)))
split-at xs more front x true e text =
    let ascii = feed-ascii x e in
    rw (slice_split-cons_yes is_line_feed x xs e)
    (rw append-nil (before_utf8 front x xs ascii text), unled (slice_split is_line_feed xs) (more [] (behind_utf8 front x xs ascii text)))
split-at xs more front x false e text =
    rw (slice_split-cons_no is_line_feed x xs e, led-more)
    (more (front ++ x ∷ []) (rw append_assoc text))

split-utf8 : (xs front : List ℕ) → IsUtf8 (front ++ xs) → AreUtf8 (led front (slice_split is_line_feed xs))
split-utf8 [] front text = (text, tt)
split-utf8 (x ∷ xs) front text = split-at xs (split-utf8 xs) front x (is_line_feed x) refl text

pub lines-utf8 : (text : List ℕ) → IsUtf8 text → AreUtf8 (lines_of text)
lines-utf8 text utf8 = unled (lines_of text) (split-utf8 text [] utf8)

-- what follows the first space of a line
behind-at : (line : List ℕ) → IsUtf8 line → (position_or_len is_space line < length line) ⊎
    (length line ≤ position_or_len is_space line) → IsUtf8 (after_first is_space line)
behind-at line utf8 (inl here) =
    let space : get_or line (position_or_len is_space line) 0 ≡ 32 = eqb-true _ 32 (passes_at_first is_space line 0 here) in
    behind_utf8 (before_first is_space line) (get_or line (position_or_len is_space line) 0) (after_first is_space line)
    (omega (arith, space))
    (subst IsUtf8 (split_at_first is_space line 0 here) utf8)
behind-at line utf8 (inr none) = rw (drop_of_length-le line {i = position_or_len is_space line + 1} (omega (arith, none))) IsUtf8-nil

pub behind-space : (line : List ℕ) → IsUtf8 line → IsUtf8 (after_space line)
unfolding after_space
behind-space line utf8 = behind-at line utf8 (cases_lt (position_or_len is_space line) (length line))
