-- Lists with one more element, or with one replaced.
use Rattle.std.proofs.Common.{◌≡◌, ◌≢◌, ℕ, suc, ◌<◌, ◌⊎◌, inl, inr, List, [], ◌∷◌, ◌++◌, length, reverse, Some, refl, sym, ap, ◌∙◌}
use Rattle.std.proofs.Common.{append-nil, arith, slice_set}
use Rattle.std.specs.List.{slice_get}
use Rattle.std.specs.Prelude.{zero}
use Rattle.std.proofs.lemmas.List.{reverse-append}

pub reverse_push : {A : Type 0} (xs : List A) (x : A) → reverse (xs ++ x ∷ []) ≡ x ∷ reverse xs
reverse_push xs x = reverse-append xs (x ∷ [])

-- if nothing is left
pub front_is_all : {A : Type 0} (front rest all : List A) → length rest ≡ 0 → front ++ rest ≡ all → front ≡ all
front_is_all front [] all none parts = sym (append-nil front) ∙ parts
front_is_all front (x ∷ rest) all none parts = absurd (omega arith)

-- an element of a list with one more is one of the list, or the last
pub last_or_before : {X : Type 0} (xs : List X) (x : X) (i : ℕ) (y : X) → slice_get (xs ++ x ∷ []) i ≡ Some y →
    (slice_get xs i ≡ Some y) ⊎ ((i ≡ length xs) × (x ≡ y))
last_or_before [] x zero y e = inr (refl, cc)
last_or_before [] x (suc i) y e = absurd cc
last_or_before (z ∷ xs) x zero y e = inl e
last_or_before (z ∷ xs) x (suc i) y e = elim (last_or_before xs x i y e) [
  | inl before ↦ inl before
  | inr last ↦ inr (ap suc last.0, last.1)
]

-- ---- an element that was replaced

pub set_here : {X : Type 0} (xs : List X) (i : ℕ) (x : X) → i < length xs → slice_get (slice_set xs i x) i ≡ Some x
set_here [] i x within = absurd (omega (arith, within))
set_here (y ∷ ys) zero x within = refl
set_here (y ∷ ys) (suc i) x within = set_here ys i x (omega (arith, within))

pub set_apart : {X : Type 0} (xs : List X) (i : ℕ) (x : X) (j : ℕ) → j ≢ i → slice_get (slice_set xs i x) j ≡ slice_get xs j
set_apart [] i x j apart = refl
set_apart (y ∷ ys) zero x zero apart = absurd (apart refl)
set_apart (y ∷ ys) zero x (suc j) apart = refl
set_apart (y ∷ ys) (suc i) x zero apart = refl
set_apart (y ∷ ys) (suc i) x (suc j) apart = set_apart ys i x j (λ same. apart (ap suc same))

-- ---- an element at its place

pub no_element : {X : Type 0} (x : X) (i : ℕ) → slice_get [] i ≡ Some x → ⊥
no_element x zero found = cc
no_element x (suc i) found = cc

-- there is an element at each place
pub has_element : {X : Type 0} (xs : List X) (i : ℕ) → i < length xs → (x : X) × (slice_get xs i ≡ Some x)
has_element [] i within = absurd (omega (arith, within))
has_element (x ∷ xs) zero within = (x, refl)
has_element (x ∷ xs) (suc i) within = has_element xs i (omega (arith, within))

pub get_at : {X : Type 0} (xs : List X) (x : X) (ys : List X) → slice_get (xs ++ x ∷ ys) (length xs) ≡ Some x
get_at [] x ys = refl
get_at (z ∷ xs) x ys = get_at xs x ys
