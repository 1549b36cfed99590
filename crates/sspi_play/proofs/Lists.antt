-- The oldest element of a list with the newest at its head, and the parts of equal lists.
use Rattle.std.proofs.Common.{◌≡◌, ℕ, ◌+◌, ◌≤◌, List, [], ◌∷◌, ◌++◌, length, take, drop, Option, None, Some, sym, ◌∙◌, ap, refl}
use Rattle.std.proofs.Common.{arith, length-append}
use Rattle.std.proofs.Math.Seq.{take-append_seam, drop-append_seam}

or_first : {A : Type 0} → Option A → A → A
or_first None x = x
or_first (Some y) x = y

abbrev oldest : {A : Type 0} → List A → Option A
oldest [] = None
oldest (x ∷ xs) = Some (or_first (oldest xs) x)

oldest_last : {A : Type 0} (xs : List A) (x : A) → oldest (xs ++ (x ∷ [])) ≡ Some x
unfolding or_first
oldest_last [] x = refl
oldest_last (y ∷ xs) x = rw (oldest_last xs x) refl

some_same : {A : Type 0} (x y : A) → Some x ≡ Some y → x ≡ y
some_same x y e = cc (e)

pub last_same : {A : Type 0} (xs ys : List A) (x y : A) → xs ++ (x ∷ []) ≡ ys ++ (y ∷ []) → x ≡ y
last_same xs ys x y e = some_same x y (sym (oldest_last xs x) ∙ ap oldest e ∙ oldest_last ys y)

pub none_last : {A : Type 0} {P : Type 0} (xs : List A) (x : A) → [] ≡ xs ++ (x ∷ []) → P
none_last xs x e = let none : None ≡ Some x = ap oldest e ∙ oldest_last xs x in absurd (cc (none))

-- prefixes of one length in equal lists are equal, and so is what follows them
pub fronts_same : {A : Type 0} (a b x y : List A) → length a ≡ length b → a ++ x ≡ b ++ y → a ≡ b
fronts_same a b x y long e =
    sym (take-append_seam a x) ∙ ap (λ (n : ℕ). take n (a ++ x)) long ∙ ap (λ (l : List _). take (length b) l) e ∙ take-append_seam b y

pub rests_same : {A : Type 0} (a b x y : List A) → length a ≡ length b → a ++ x ≡ b ++ y → x ≡ y
rests_same a b x y long e =
    sym (drop-append_seam a x) ∙ ap (λ (n : ℕ). drop n (a ++ x)) long ∙ ap (λ (l : List _). drop (length b) l) e ∙ drop-append_seam b y

pub head_same : {A : Type 0} (x y : A) (xs ys : List A) → x ∷ xs ≡ y ∷ ys → x ≡ y
head_same x y xs ys e = cc (e)

pub tail_same : {A : Type 0} (x y : A) (xs ys : List A) → x ∷ xs ≡ y ∷ ys → xs ≡ ys
tail_same x y xs ys e = cc (e)

-- if a list has at most one element after its head and ends with these two, the first is its head
pub head_of_two : {A : Type 0} (x z y : A) (rest later : List A) → length rest ≤ 1 → x ∷ rest ≡ later ++ (z ∷ (y ∷ [])) → x ≡ z
head_of_two x z y rest [] few e = head_same x z rest (y ∷ []) e
head_of_two x z y rest (w ∷ later) few e =
    let long : length rest ≡ length later + 2 = ap length (tail_same x w rest (later ++ (z ∷ (y ∷ []))) e) ∙ length-append later
    (z ∷ (y ∷ [])) in
    absurd (omega (arith, few, long))

pub two_are_more : {A : Type 0} {P : Type 0} (z y : A) (all later : List A) → length all ≤ 1 → all ≡ later ++ (z ∷ (y ∷ [])) → P
two_are_more z y all later few e =
    let long : length all ≡ length later + 2 = ap length e ∙ length-append later (z ∷ (y ∷ [])) in absurd (omega (arith, few, long))
