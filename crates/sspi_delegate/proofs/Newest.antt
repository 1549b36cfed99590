-- The newest entry of a log whose entries are kept in a `Vec`, the first one first.
use Rattle.std.proofs.Common.{◌≡◌, ℕ, ◌+◌, ◌<◌, ◌≤◌, suc, List, [], ◌∷◌, ◌++◌, length, get_or, set, take, reverse, sym, ◌∙◌, ap, arith}
use Rattle.std.proofs.Common.{Result, Ok, Err, IfOk, OnErr, true, inl, inr}
use Rattle.std.proofs.lemmas.List.{length-reverse, reverse-append, set_split, take_more, take_all, drop_all}
use Rattle.sspi_delegate.specs.declared.carried.Carried.{Carried}
use Rattle.sspi_delegate.specs.declared.link.LinkError.{LinkError}
use Rattle.sspi_delegate.specs.declared.link.LinkError.TheVariants.{Failed, InsufficientMemory}
use Rattle.sspi_delegate.specs.LogKeeping.{NewestDelivers}
use Rattle.sspi_delegate.specs.Link.{DidOrKept, IsReceived, IsReceivedOf, PieceGives}
use Rattle.sspi_delegate.specs.Log.{grown}

pub reverse-last : {A : Type 0} (xs : List A) (n : ℕ) (x : A) → length xs ≡ n + 1 → x ≡ get_or xs n x → reverse xs ≡ x ∷ reverse (take n xs)
reverse-last xs n x e is =
    let here : n < length xs = omega arith in
    let most : length xs ≤ n + 1 = omega arith in
    let parts : xs ≡ take n xs ++ get_or xs n x ∷ [] = sym (take_all (n + 1) xs most) ∙ take_more xs n x here in
    let named : xs ≡ take n xs ++ x ∷ [] = parts ∙ ap (λ (y : _). take n xs ++ y ∷ []) (sym is) in
    ap reverse named ∙ reverse-append (take n xs) (x ∷ [])

pub reverse-set_last : {A : Type 0} (xs : List A) (n : ℕ) (x : A) → length xs ≡ n + 1 → reverse (set xs n x) ≡ x ∷ reverse (take n xs)
reverse-set_last xs n x e =
    let here : n < length xs = omega arith in
    let past : length xs ≤ suc n = omega arith in
    let parts : set xs n x ≡ take n xs ++ x ∷ [] = set_split xs n x here ∙ ap (λ (ys : _). take n xs ++ x ∷ ys)
    (drop_all (suc n) xs past) in
    ap reverse parts ∙ reverse-append (take n xs) (x ∷ [])

gives_at : (e e2 : Carried) (log : List Carried) (into : List ℕ) (r : Result ℕ LinkError) →
    IfOk r (λ n. (n ≤ length into) × (e.ended ≡ true → n ≡ 0) × (e2 ≡ grown e n into)) → OnErr r (e2 ≡ e) →
    PieceGives (e ∷ log) (e2 ∷ log) r into
gives_at e e2 log into (Ok n) ok err = (ok.0, (ok.1, ap (λ (x : _). x ∷ log) ok.2))
gives_at e e2 log into (Err error) ok err = ap (λ (x : _). x ∷ log) err

-- what a call did to the newest entry is what it did to the log
pub gives_newest : (old xs : List Carried) (n : ℕ) (e e2 : Carried) (into : List ℕ) (r : Result ℕ LinkError) →
    reverse xs ≡ old → length xs ≡ n + 1 → e ≡ get_or xs n e →
    IfOk r (λ n. (n ≤ length into) × (e.ended ≡ true → n ≡ 0) × (e2 ≡ grown e n into)) → OnErr r (e2 ≡ e) →
    PieceGives old (reverse (set xs n e2)) r into
gives_newest old xs n e e2 into r is size there ok err =
    rw (← is, reverse-last xs n e size there, reverse-set_last xs n e2 size)
    (gives_at e e2 (reverse (take n xs)) into r ok err)

-- what was asked of a carrier for the newest entry was asked for the log
pub received_newest : {R : Type 0} (receives : R → ℕ → List ℕ → R → Type 0) (before now : R) (old xs : List Carried) (n : ℕ) (e : Carried)
    (into : List ℕ) (r : Result ℕ LinkError) →
    reverse xs ≡ old → length xs ≡ n + 1 → e ≡ get_or xs n e → IfOk r (λ count. IsReceivedOf receives e.ended before count into now) →
    IfOk r (λ count. IsReceived receives old before count into now)
received_newest receives before now old xs n e into r is size there received = rw (← is, reverse-last xs n e size there) received

-- that a carrier did this, and that it was not asked
pub did : (error : LinkError) (Did Kept : Type 0) → Did → DidOrKept error Did Kept
did Failed Did Kept h = h
did InsufficientMemory Did Kept h = inl h

pub kept : (error : LinkError) (Did Kept : Type 0) → error ≡ InsufficientMemory → Kept → DidOrKept error Did Kept
kept error Did Kept is h = rw is (inr h)

pub newest_delivers : (text : List ℕ) (xs : List Carried) (n : ℕ) (e : Carried) → length xs ≡ n + 1 →
    NewestDelivers text (e ∷ reverse (take n xs)) → NewestDelivers text (reverse (set xs n e))
newest_delivers text xs n e size h = rw (reverse-set_last xs n e size) h

-- entries with a newest one are not empty
pub newest_there : {P : Type 0} (old xs : List Carried) (n : ℕ) → reverse xs ≡ old → length xs ≡ n + 1 → old ≡ [] → P
newest_there old xs n is size empty =
    let none : length xs ≡ 0 = sym (length-reverse xs) ∙ ap length (is ∙ empty) in absurd (omega (arith, none, size))
