-- The first turns of a list, read from their end.
use Rattle.std.proofs.Common.{◌≡◌, ◌<◌, ◌≤◌, ◌+◌, ℕ, ◌⊎◌, inl, inr, List, [], ◌∷◌, ◌++◌, length, take, drop, reverse, get_or, slice_get}
use Rattle.std.proofs.Common.{Some, sym, ◌∙◌, ap, refl, subst, arith}
use Rattle.std.proofs.lemmas.Bool.{cases_lt}
use Rattle.std.proofs.lemmas.List.{length-reverse, length-take-le, reverse-append, take_more, take_all, take-append-drop}
use Rattle.std.proofs.lemmas.Option.{slice_get_within, get_or_from_slice_get}
use Rattle.sspi_credssp.specs.declared.turn.Turn.{Turn}
use Rattle.sspi_delegate.specs.declared.carried.Carried.{Carried}
use Rattle.sspi_audit.specs.Run.{IsLeftBehind, LastLeft}
use Rattle.sspi_audit.specs.Shown.{ShownTurn, EachShown, IsCounted}

pub next_past : {A : Type 0} (xs : List A) (n : ℕ) (x : A) → slice_get xs n ≡ Some x → reverse (take (n + 1) xs) ≡ x ∷ reverse (take n xs)
next_past xs n x there =
    let here = slice_get_within xs n x there in
    let is : x ≡ get_or xs n x = sym (get_or_from_slice_get xs n x x there) in
    ap reverse (take_more xs n x here ∙ ap (λ (y : _). take n xs ++ y ∷ []) (sym is)) ∙ reverse-append (take n xs) (x ∷ [])

pub all_past : {A : Type 0} (xs : List A) (n : ℕ) → length xs ≤ n → reverse (take n xs) ≡ reverse xs
all_past xs n most = ap reverse (take_all n xs most)

pub front_length : {A : Type 0} (xs : List A) (n : ℕ) → n < length xs → length (reverse (take n xs)) ≡ n
front_length xs n within = length-reverse (take n xs) ∙ length-take-le n xs (omega (arith, within))

pub within_or_last : (i n : ℕ) → i < n + 1 → (i < n) ⊎ (i ≡ n)
within_or_last i n within = elim (cases_lt i n) [
  | inl less ↦ inl less
  | inr more ↦ inr (omega (arith, within, more))
]

some_same : {A : Type 0} (x y : A) → Some x ≡ Some y → x ≡ y
some_same x y e = cc (e)

pub same_item : {A : Type 0} (xs : List A) (n i : ℕ) (x y : A) → i ≡ n → slice_get xs n ≡ Some x → slice_get xs i ≡ Some y → x ≡ y
same_item xs n i x y at there here = some_same x y (sym there ∙ ap (λ (k : ℕ). slice_get xs k) (sym at) ∙ here)

-- what holds of all turns holds of the first ones
each_before : (log : List Carried) (later past : List Turn) → EachShown log (later ++ past) → EachShown log past
each_before log [] past each = each
each_before log (t ∷ later) past each = each_before log later past each.1

pub each_at : (log : List Carried) (turns : List Turn) (n : ℕ) (t : Turn) → slice_get turns n ≡ Some t → EachShown log (reverse turns) →
    ShownTurn log (reverse (take n turns)) t
each_at log turns n t there each =
    let split : reverse turns ≡ reverse (drop (n + 1) turns) ++ (t ∷ reverse (take n turns)) =
    ap reverse (sym (take-append-drop (n + 1) turns)) ∙ reverse-append (take (n + 1) turns) (drop (n + 1) turns)
    ∙ ap (λ (l : List Turn). reverse (drop (n + 1) turns) ++ l) (next_past turns n t there) in
    (each_before log (reverse (drop (n + 1) turns)) (t ∷ reverse (take n turns)) (subst (λ (l : List Turn). EachShown log l) split each)).0

pub counted_reverse : (turns : List Turn) (log : List Carried) → IsCounted turns log → IsCounted (reverse turns) log
counted_reverse turns log counted = record {
  most = rw (length-reverse turns) counted.most;
  least = rw (length-reverse turns) counted.least;
}

pub counted_forward : (turns : List Turn) (log : List Carried) → IsCounted (reverse turns) log → IsCounted turns log
counted_forward turns log counted = record {
  most = subst (λ (n : ℕ). length log ≤ n) (length-reverse turns) counted.most;
  least = subst (λ (n : ℕ). n ≤ length log + 1) (length-reverse turns) counted.least;
}

-- what was taken after the last turn, in a list read from its first turn
pub last_is : (turns : List Turn) (log : List Carried) (place : ℕ) (t : Turn) (e : Carried) → length turns ≡ place + 1 →
    slice_get turns place ≡ Some t → slice_get log place ≡ Some e → LastLeft (reverse turns) log ≡ IsLeftBehind t.outcome e
last_is turns log place t e long there entry =
    let newest : reverse turns ≡ t ∷ reverse (take place turns) =
    sym (all_past turns (place + 1) (omega (arith, long))) ∙ next_past turns place t there in
    let before = front_length turns place (slice_get_within turns place t there) in
    rw (newest, before, entry) refl
