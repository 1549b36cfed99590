-- What the searches of std say about a byte below 128.
use Rattle.std.proofs.Common.{◌≡◌, ◌≢◌, ℕ, ◌<◌, ◌≤◌, List, Bool, true, false, Option, Some}
use Rattle.std.proofs.Common.{None, MatchOption, MatchBool, length, get_or, refl, arith}
use Rattle.std.specs.List.{list_any}
use Rattle.std.specs.Str.{IsCharBoundary}
use Rattle.std.specs.Str.Pattern.{FindsChar, RFindsChar}
use Rattle.std.proofs.lemmas.Bool.{eq-eqb, false≢true}
use Rattle.std.proofs.lemmas.List.Folds.{list_any_at}
use Rattle.std.proofs.lemmas.Str.Pattern.{find_char, rfind_char, contains_char}
use Rattle.sspi_names.specs.Places.{IsNowhere, IsLast, IsFirst}
use Rattle.sspi_names.specs.Name.{at_sign, backslash, is_at_sign, is_backslash}
use Rattle.sspi_names.proofs.Places.{is, nowhere-any}

last_by : (c : ℕ) (t : List ℕ) (r : Option ℕ) → MatchOption r (IsNowhere c t)
    (λ k. (k < length t) × (get_or t k 0 ≡ c) × ((i : ℕ) → k < i → i < length t → get_or t i 0 ≢ c))
    → MatchOption r (list_any (is c) t ≡ false) (IsLast c t)
last_by c t None h = nowhere-any c t h
last_by c t (Some k) h = h

first_by : (c : ℕ) (t : List ℕ) (r : Option ℕ) → MatchOption r (IsNowhere c t)
    (λ k. (k < length t) × (get_or t k 0 ≡ c) × ((i : ℕ) → i < k → get_or t i 0 ≢ c))
    → MatchOption r (list_any (is c) t ≡ false) (IsFirst c t)
first_by c t None h = nowhere-any c t h
first_by c t (Some k) h = h

pub found_last : (c : ℕ) (t : List ℕ) (r : Option ℕ) → c < 128
    → MatchOption r (RFindsChar c t None) (λ i. (j : ℕ) × RFindsChar c t (Some (i, j)) × (i ≤ j) × IsCharBoundary t i × IsCharBoundary t j)
    → MatchOption r (list_any (is c) t ≡ false) (IsLast c t)
found_last c t r ascii h = last_by c t r (rfind_char c t r h ascii)

pub found_first : (c : ℕ) (t : List ℕ) (r : Option ℕ) → c < 128
    → MatchOption r (FindsChar c t None) (λ i. (j : ℕ) × FindsChar c t (Some (i, j)) × (i ≤ j) × IsCharBoundary t i × IsCharBoundary t j)
    → MatchOption r (list_any (is c) t ≡ false) (IsFirst c t)
found_first c t r ascii h = first_by c t r (find_char c t r h ascii)

abbrev Tells : ℕ → List ℕ → Bool → Type 0
Tells c t r = (r ≡ true → (k : ℕ) × (k < length t) × (get_or t k 0 ≡ c)) × ((k : ℕ) → k < length t → get_or t k 0 ≡ c → r ≡ true)

told : (c : ℕ) (t : List ℕ) (r : Bool) → Tells c t r → list_any (is c) t ≡ r
told c t true h = let p = h.0 refl in list_any_at (is c) t p.0 0 p.1 (eq-eqb (get_or t p.0 0) c p.2)
told c t false h = nowhere-any c t (λ i within here. false≢true (h.1 i within here))

pub contained : (c : ℕ) (t : List ℕ) (r : Bool) → c < 128
    → MatchBool r ((i : ℕ) × (j : ℕ) × FindsChar c t (Some (i, j)) × (i ≤ j) × (j ≤ length t)) (FindsChar c t None)
    → list_any (is c) t ≡ r
contained c t r ascii h = told c t r (contains_char c t r h ascii)

pub last_at_sign_found : (t : List ℕ) (r : Option ℕ)
    → MatchOption r (RFindsChar 64 t None) (λ i. (j : ℕ) × RFindsChar 64 t (Some (i, j)) × (i ≤ j) × IsCharBoundary t i
    × IsCharBoundary t j)
    → MatchOption r (list_any is_at_sign t ≡ false) (λ k. IsLast at_sign t k)
last_at_sign_found t r h = found_last 64 t r (omega arith) h

pub first_backslash_found : (t : List ℕ) (r : Option ℕ)
    → MatchOption r (FindsChar 92 t None) (λ i. (j : ℕ) × FindsChar 92 t (Some (i, j)) × (i ≤ j) × IsCharBoundary t i × IsCharBoundary t j)
    → MatchOption r (list_any is_backslash t ≡ false) (λ k. IsFirst backslash t k)
first_backslash_found t r h = found_first 92 t r (omega arith) h
