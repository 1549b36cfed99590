-- The element at the first place where a test passes is the one that a search finds.
use Rattle.std.proofs.Common.{◌≡◌, ◌∙◌, ◌<◌, ◌≤◌, ℕ, Bool, true, false, cond, ltb, Some, None}
use Rattle.std.proofs.Common.{List, length, get_or, position, sym, ap, refl, arith, tests}
use Rattle.std.proofs.lemmas.List.Folds.{find_at}
use Rattle.std.proofs.lemmas.Option.{slice_get_read, slice_get_past}
use Rattle.std.specs.List.{find, position_or_len, slice_get}

chosen : (test : Bool) (n place : ℕ) → Some place ≡ cond test (Some n) None → (test ≡ true) × (place ≡ n)
chosen true n place e = (refl, cc)
chosen false n place e = cc

passed_over : (test : Bool) (n : ℕ) → None ≡ cond test (Some n) None → test ≡ false
passed_over true n e = cc
passed_over false n e = refl

pub found_at : {X : Type 0} (p : X → Bool) (xs : List X) (place : ℕ) (x : X) → Some place ≡ position p xs →
    x ≡ get_or xs place x → find p xs ≡ Some x
found_at p xs place x at read =
    let h = chosen (ltb (position_or_len p xs) (length xs)) (position_or_len p xs) place at in
    let inside : place < length xs = search (tests, arith) in
    find_at p xs ∙ ap (slice_get xs) (sym h.1) ∙ slice_get_read xs (length xs) place x refl inside read

pub place_of_first : {X : Type 0} (p : X → Bool) (xs : List X) (place : ℕ) → Some place ≡ position p xs → place ≡ position_or_len p xs
place_of_first p xs place at = (chosen (ltb (position_or_len p xs) (length xs)) (position_or_len p xs) place at).1

pub not_found : {X : Type 0} (p : X → Bool) (xs : List X) → None ≡ position p xs → find p xs ≡ None
not_found p xs at =
    let h = passed_over (ltb (position_or_len p xs) (length xs)) (position_or_len p xs) at in
    let past : length xs ≤ position_or_len p xs = search (tests, arith) in
    find_at p xs ∙ slice_get_past xs (position_or_len p xs) past
