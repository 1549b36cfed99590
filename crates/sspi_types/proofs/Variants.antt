-- An enum of numbered variants without fields: one computation on its table shows they differ.
use Rattle.std.proofs.Common.{◌≡◌, ℕ, suc, Bool, true, false, ◌&&◌, cond, eqb, eq-eqb}
use Rattle.std.proofs.Common.{T, List, [], ◌∷◌, inl, inr, refl, sym, ◌∙◌, ap, subst}
use lib.Dec.{eqb→eq}
use denote.Struct.Field.{Field}
use denote.Enum.Bare.{Bare, sameb, same_true, true_same}
use denote.Enum.Declared.{Record, Choice, declared}

-- the test holds for every choice
abbrev pub holds_of_all : (Fss : List (List Field)) → (Choice Fss → Bool) → Bool
holds_of_all [] p = true
holds_of_all ([] ∷ Fss) p = p (inl tt) && holds_of_all Fss (λ c. p (inr c))
holds_of_all ((F ∷ Fs) ∷ Fss) p = false

-- the place of a choice among the variants
abbrev pub place : (Fss : List (List Field)) → Choice Fss → ℕ
place [] c = 0
place (Fs ∷ Fss) (inl x) = 0
place (Fs ∷ Fss) (inr c) = suc (place Fss c)

-- the place of the first variant with this number
abbrev pub place_of : (Fss : List (List Field)) → (Choice Fss → ℕ) → ℕ → ℕ
place_of [] number n = 0
place_of ([] ∷ Fss) number n = cond (eqb (number (inl tt)) n) 0 (suc (place_of Fss (λ c. number (inr c)) n))
place_of ((F ∷ Fs) ∷ Fss) number n = 0

-- each variant is the first with its number
abbrev pub are_apart : (N : Record) → (N.D → ℕ) → Bool
are_apart N number = holds_of_all N.parts (λ c. eqb (place_of N.parts (λ d. number (N.make d)) (number (N.make c))) (place N.parts c))

and-left : (a b : Bool) → a && b ≡ true → a ≡ true
and-left true b h = refl
and-left false b h = h

and-right : (a b : Bool) → a && b ≡ true → b ≡ true
and-right true b h = h
and-right false b h = cc

pub held : (Fss : List (List Field)) → Bare Fss → (p : Choice Fss → Bool) → holds_of_all Fss p ≡ true → (c : Choice Fss) → p c ≡ true
held [] bare p h c = absurd c
held ([] ∷ Fss) bare p h (inl x) = and-left (p (inl tt)) (holds_of_all Fss (λ c. p (inr c))) h
held ([] ∷ Fss) bare p h (inr c) = held Fss bare (λ d. p (inr d)) (and-right (p (inl tt)) (holds_of_all Fss (λ d. p (inr d))) h) c
held ((F ∷ Fs) ∷ Fss) bare p h c = absurd bare

suc_one : (m n : ℕ) → suc m ≡ suc n → m ≡ n
suc_one m n e = cc

place_one : (Fss : List (List Field)) → Bare Fss → (a b : Choice Fss) → place Fss a ≡ place Fss b → a ≡ b
place_one [] bare a b e = absurd a
place_one ([] ∷ Fss) bare (inl x) (inl y) e = refl
place_one ([] ∷ Fss) bare (inl x) (inr b) e = cc
place_one ([] ∷ Fss) bare (inr a) (inl y) e = cc
place_one ([] ∷ Fss) bare (inr a) (inr b) e = ap inr (place_one Fss bare a b (suc_one (place Fss a) (place Fss b) e))
place_one ((F ∷ Fs) ∷ Fss) bare a b e = absurd bare

true_eq : (m n : ℕ) → eqb m n ≡ true → m ≡ n
true_eq m n e = eqb→eq m n (subst T (sym e) tt)

-- two values with the same number are the same value
pub same_number : (N : Record) → Bare N.parts → (number : N.D → ℕ) → are_apart N number ≡ true → (a b : N.D) → number a ≡ number b → a ≡ b
same_number N bare number apart a b e =
    let f : Choice N.parts → ℕ = λ c. number (N.make c) in
    let at : (c : Choice N.parts) → place_of N.parts f (f c) ≡ place N.parts c =
    λ c. true_eq _ _ (held N.parts bare (λ d. eqb (place_of N.parts f (f d)) (place N.parts d)) apart c) in
    let x = N.as_values a in
    let y = N.as_values b in
    let e2 : f x ≡ f y = ap number (N.eta a) ∙ e ∙ sym (ap number (N.eta b)) in
    let p : place N.parts x ≡ place N.parts y = sym (at x) ∙ ap (place_of N.parts f) e2 ∙ at y in
    sym (N.eta a) ∙ ap N.make (place_one N.parts bare x y p) ∙ N.eta b

agree : (s t : Bool) → (s ≡ true → t ≡ true) → (t ≡ true → s ≡ true) → s ≡ t
agree true t f g = sym (f refl)
agree false true f g = g refl
agree false false f g = refl

-- `==` on the enum compares the numbers
pub same_test : (N : Record) → Bare N.parts → (number : N.D → ℕ) → are_apart N number ≡ true → (a b : N.D) →
    sameb (declared N) a b ≡ eqb (number a) (number b)
same_test N bare number apart a b =
    agree (sameb (declared N) a b) (eqb (number a) (number b))
    (λ h. eq-eqb _ _ (ap number (same_true (declared N) bare a b h)))
    (λ h. true_same (declared N) a b (same_number N bare number apart a b (true_eq _ _ h)))
