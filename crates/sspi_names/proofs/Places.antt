-- Where a byte occurs in a list: the first place, the last, or none.
use Rattle.std.proofs.Common.{◌≡◌, ◌≢◌, inl, inr, ℕ, zero, suc, ◌+◌, ◌-◌, ◌<◌, List, [], ◌∷◌, Bool, true, false}
use Rattle.std.proofs.Common.{◌||◌, not, eqb, length, get_or, take, drop, refl, sym, ap, ◌∙◌, subst, arith}
use Rattle.sspi_names.specs.Places.{IsNowhere, IsLast, IsFirst}
use Rattle.std.specs.List.{list_any, before_first, after_first, before_last, after_last, position_or_len, suffix_len}
use Rattle.std.proofs.lemmas.Bool.{false≢true, eqb-true, eqb-false, eq-eqb, ne_eqb, or_from, or_parts, cases_Bool, cases_eq}
use Rattle.std.proofs.Math.Bool.{or-false}
use Rattle.std.proofs.lemmas.List.Sums.{suffix_len_is, position_or_len_is}

-- the test for the byte c
abbrev pub is : ℕ → ℕ → Bool
is c b = eqb b c

pub nowhere-any : (c : ℕ) (t : List ℕ) → IsNowhere c t → list_any (is c) t ≡ false
nowhere-any c [] none = refl
nowhere-any c (x ∷ t) none =
    or_from (eqb x c) (list_any (is c) t) (ne_eqb x c (none 0 (omega arith))) (nowhere-any c t (λ i h. none (suc i) (omega arith)))

pub any-nowhere : (c : ℕ) (t : List ℕ) → list_any (is c) t ≡ false → IsNowhere c t
any-nowhere c [] e i h = absurd (omega arith)
any-nowhere c (x ∷ t) e zero h = eqb-false x c (or_parts _ _ e).0
any-nowhere c (x ∷ t) e (suc i) h = any-nowhere c t (or_parts _ _ e).1 i (omega arith)

-- c is at k and nowhere after it
pub last_at : (c k : ℕ) (t : List ℕ) → k < length t → get_or t k 0 ≡ c → ((i : ℕ) → k < i → i < length t → get_or t i 0 ≢ c)
    → (before_last (is c) t ≡ take k t) × (after_last (is c) t ≡ drop (k + 1) t)
last_at c k t within here later =
    let len : suffix_len (λ b. not (eqb b c)) t ≡ length t - (k + 1) =
    suffix_len_is (λ b. not (eqb b c)) t (k + 1) 0 (omega arith)
    (λ i above below. ap not (ne_eqb (get_or t i 0) c (later i (omega arith) below)))
    (λ _. ap not (eq-eqb (get_or t (k + 1 - 1) 0) c (subst (λ n. get_or t n 0 ≡ c) {x = k} {y = k + 1 - 1} (omega arith) here))) in (
      ap (λ n. take n t) {x = length t - suffix_len (λ b. not (eqb b c)) t - 1} {y = k} (omega arith),
      ap (λ n. drop n t) {x = length t - suffix_len (λ b. not (eqb b c)) t} {y = k + 1} (omega arith),
    )

-- c is at k and nowhere before it
pub first_at : (c k : ℕ) (t : List ℕ) → k < length t → get_or t k 0 ≡ c → ((i : ℕ) → i < k → get_or t i 0 ≢ c)
    → (before_first (is c) t ≡ take k t) × (after_first (is c) t ≡ drop (k + 1) t)
first_at c k t within here earlier =
    let len : position_or_len (is c) t ≡ k =
    position_or_len_is (is c) t k 0 (omega arith) (λ i h. ne_eqb (get_or t i 0) c (earlier i h)) (λ _. eq-eqb (get_or t k 0) c here) in
    (ap (λ n. take n t) len, ap (λ n. drop (n + 1) t) len)

last-cons : (c x k : ℕ) (t : List ℕ) → IsLast c t k → IsLast c (x ∷ t) (suc k)
last-cons c x k t p = (omega arith, p.1, none)
  where
    none : (i : ℕ) → suc k < i → i < suc (length t) → get_or (x ∷ t) i 0 ≢ c
    none zero above below = absurd (omega arith)
    none (suc i) above below = p.2 i (omega arith) (omega arith)

last-head : (c x : ℕ) (t : List ℕ) → x ≡ c → IsNowhere c t → IsLast c (x ∷ t) 0
last-head c x t e p = (omega arith, e, none)
  where
    none : (i : ℕ) → 0 < i → i < suc (length t) → get_or (x ∷ t) i 0 ≢ c
    none zero above below = absurd (omega arith)
    none (suc i) above below = p i (omega arith)

first-cons : (c x k : ℕ) (t : List ℕ) → x ≢ c → IsFirst c t k → IsFirst c (x ∷ t) (suc k)
first-cons c x k t apart p = (omega arith, p.1, none)
  where
    none : (i : ℕ) → i < suc k → get_or (x ∷ t) i 0 ≢ c
    none zero above = apart
    none (suc i) above = p.2 i (omega arith)

-- there is a last place if there is any
pub last_place : (c : ℕ) (t : List ℕ) → list_any (is c) t ≡ true → (k : ℕ) × IsLast c t k
last_place c [] any = absurd (false≢true any)
last_place c (x ∷ t) any =
    elim (cases_Bool (list_any (is c) t)) [
      | inl e ↦ let p = last_place c t e in (suc p.0, last-cons c x p.0 t p.1)
      | inr e ↦ (0, last-head c x t (eqb-true x c (sym (or-false _) ∙ ap (λ b. eqb x c || b) (sym e) ∙ any)) (any-nowhere c t e))
    ]

-- there is a first place if there is any
pub first_place : (c : ℕ) (t : List ℕ) → list_any (is c) t ≡ true → (k : ℕ) × IsFirst c t k
first_place c [] any = absurd (false≢true any)
first_place c (x ∷ t) any =
    elim (cases_eq x c) [
      | inl e ↦ (0, (omega arith, e, λ i h. absurd (omega arith)))
      | inr apart ↦ let p = first_place c t (ap (λ b. b || list_any (is c) t) (sym (ne_eqb x c apart)) ∙ any) in
          (suc p.0, first-cons c x p.0 t apart p.1)
    ]
