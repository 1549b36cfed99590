-- Two elements of a list that is cut at the later one.
use Rattle.std.proofs.Common.{◌≡◌, ◌∙◌, ℕ, zero, suc, ◌+◌, ◌<◌, ◌≢◌, Bool, true, false, cond, ltb, not, List, [], ◌∷◌, ◌++◌}
use Rattle.std.proofs.Common.{length, get_or, take, drop, get_or-take, get_or-drop, position, Some, None, Option, sym, ap, refl, arith}
use Rattle.std.proofs.Common.{tests, true≢false}
use Rattle.std.specs.Prelude.{slice_set}
use Rattle.std.specs.List.{position_or_len}
use Rattle.sspi_types.specs.declared.buffer.SecurityBuffer.{SecurityBuffer}
use Rattle.sspi_types.specs.declared.buffer_type.BufferType.{BufferType}
use Rattle.sspi_types.specs.BufferTypes.{buffer_type_number}
use Rattle.sspi_types.proofs.Places.{found_at, place_of_first, not_found}
use Rattle.sspi_messages.specs.Buffers.{is_unflagged, first_unflagged, pair_of}
use Rattle.sspi_messages.proofs.Left.{apart}

module _ {X : Type 0} where
  set_behind : (xs : List X) (j : ℕ) (y : X) → take j xs ++ slice_set (drop j xs) 0 y ≡ slice_set xs j y
  set_behind [] zero y = refl
  set_behind [] (suc j) y = refl
  set_behind (x ∷ xs) zero y = refl
  set_behind (x ∷ xs) (suc j) y = ap (λ l. x ∷ l) (set_behind xs j y)

  -- the earlier one is set first
  pub set_parts : (xs : List X) (i j : ℕ) (x y : X) → i < j →
      slice_set (take j xs) i x ++ slice_set (drop j xs) 0 y ≡ slice_set (slice_set xs i x) j y
  set_parts xs i zero x y lt = absurd (omega arith)
  set_parts [] zero (suc j) x y lt = refl
  set_parts [] (suc i) (suc j) x y lt = refl
  set_parts (z ∷ zs) zero (suc j) x y lt = ap (λ l. x ∷ l) (set_behind zs j y)
  set_parts (z ∷ zs) (suc i) (suc j) x y lt = ap (λ l. z ∷ l) (set_parts zs i j x y (omega arith))

  -- the earlier one is set last
  pub set_parts_back : (xs : List X) (i j : ℕ) (x y : X) → i < j →
      slice_set (take j xs) i x ++ slice_set (drop j xs) 0 y ≡ slice_set (slice_set xs j y) i x
  set_parts_back xs i zero x y lt = absurd (omega arith)
  set_parts_back [] zero (suc j) x y lt = refl
  set_parts_back [] (suc i) (suc j) x y lt = refl
  set_parts_back (z ∷ zs) zero (suc j) x y lt = ap (λ l. x ∷ l) (set_behind zs j y)
  set_parts_back (z ∷ zs) (suc i) (suc j) x y lt = ap (λ l. z ∷ l) (set_parts_back zs i j x y (omega arith))

-- buffers of two types are at two places
pub places_differ : (f s : BufferType) → buffer_type_number f ≢ buffer_type_number s → (xs : List SecurityBuffer) →
    position_or_len (is_unflagged f) xs < length xs → position_or_len (is_unflagged f) xs ≢ position_or_len (is_unflagged s) xs
places_differ f s d [] inside = absurd (omega arith)
places_differ f s d (x ∷ xs) inside = by (is_unflagged f x) (is_unflagged s x) (apart f s d x) inside (places_differ f s d xs)
  where
    by : (t u : Bool) → (t ≡ true → u ≡ false) → cond (not t) (1 + position_or_len (is_unflagged f) xs) 0 < suc (length xs) →
        (position_or_len (is_unflagged f) xs < length xs → position_or_len (is_unflagged f) xs ≢ position_or_len (is_unflagged s) xs) →
        cond (not t) (1 + position_or_len (is_unflagged f) xs) 0 ≢ cond (not u) (1 + position_or_len (is_unflagged s) xs) 0
    by true true other short rest = λ e. absurd (true≢false (other refl))
    by true false other short rest = λ e. absurd (omega arith)
    by false true other short rest = λ e. absurd (omega arith)
    by false false other short rest = λ e. rest (omega arith) (omega arith)

chosen : (test : Bool) (n place : ℕ) → Some place ≡ cond test (Some n) None → (test ≡ true) × (place ≡ n)
chosen true n place e = (refl, cc)
chosen false n place e = cc

place_inside : {X : Type 0} (p : X → Bool) (xs : List X) (place : ℕ) → Some place ≡ position p xs → position_or_len p xs < length xs
place_inside p xs place at =
    let h = chosen (ltb (position_or_len p xs) (length xs)) (position_or_len p xs) place at in
    search (tests, arith)

module _ {X : Type 0} (xs : List X) where
  pub read_front : (front : List X) (i j : ℕ) (a : X) → front ≡ take j xs → i < j → a ≡ get_or front i a → a ≡ get_or xs i a
  read_front front i j a cut lt read = read ∙ ap (λ l. get_or l i a) cut ∙ get_or-take j xs i a lt

  pub read_back : (back : List X) (j : ℕ) (a : X) → back ≡ drop j xs → a ≡ get_or back 0 a → a ≡ get_or xs j a
  read_back back j a cut read = read ∙ ap (λ l. get_or l 0 a) cut ∙ get_or-drop j xs 0 a ∙ ap (λ n. get_or xs n a) (omega arith)

module _ (f s : BufferType) (d : buffer_type_number f ≢ buffer_type_number s) (xs : List SecurityBuffer) (i j : ℕ)
    (at_i : Some i ≡ position (is_unflagged f) xs) (at_j : Some j ≡ position (is_unflagged s) xs) where
  pub differ : i ≢ j
  differ = λ e. places_differ f s d xs (place_inside (is_unflagged f) xs i at_i)
      (sym (place_of_first (is_unflagged f) xs i at_i) ∙ e ∙ place_of_first (is_unflagged s) xs j at_j)

  pub pair_found : (a b : SecurityBuffer) → a ≡ get_or xs i a → b ≡ get_or xs j b →
      Some (a, b) ≡ pair_of (first_unflagged f xs) (first_unflagged s xs)
  pair_found a b read_a read_b =
      sym (ap (λ o. pair_of o (first_unflagged s xs)) (found_at (is_unflagged f) xs i a at_i read_a)
      ∙ ap (λ o. pair_of (Some a) o) (found_at (is_unflagged s) xs j b at_j read_b))

  module _ (front back : List SecurityBuffer) where
    pub lent : (x y : SecurityBuffer) → front ≡ take j xs → back ≡ drop j xs → i < j →
        slice_set front i x ++ slice_set back 0 y
        ≡ slice_set (slice_set xs (position_or_len (is_unflagged f) xs) x) (position_or_len (is_unflagged s) xs) y
    lent x y cut rest lt = ap (λ l. slice_set l i x ++ slice_set back 0 y) cut ∙ ap (λ l. slice_set (take j xs) i x ++ slice_set l 0 y) rest
        ∙ set_parts xs i j x y lt
        ∙ ap (λ n. slice_set (slice_set xs n x) j y) (place_of_first (is_unflagged f) xs i at_i)
        ∙ ap (λ n. slice_set (slice_set xs (position_or_len (is_unflagged f) xs) x) n y) (place_of_first (is_unflagged s) xs j at_j)

    pub lent_back : (x y : SecurityBuffer) → front ≡ take i xs → back ≡ drop i xs → j < i →
        slice_set front j y ++ slice_set back 0 x
        ≡ slice_set (slice_set xs (position_or_len (is_unflagged f) xs) x) (position_or_len (is_unflagged s) xs) y
    lent_back x y cut rest lt = ap (λ l. slice_set l j y ++ slice_set back 0 x) cut ∙ ap
        (λ l. slice_set (take i xs) j y ++ slice_set l 0 x) rest
        ∙ set_parts_back xs j i y x lt
        ∙ ap (λ n. slice_set (slice_set xs n x) j y) (place_of_first (is_unflagged f) xs i at_i)
        ∙ ap (λ n. slice_set (slice_set xs (position_or_len (is_unflagged f) xs) x) n y) (place_of_first (is_unflagged s) xs j at_j)

no_second : {A B : Type 0} (o : Option A) → None ≡ pair_of {A = A} {B = B} o None
no_second None = refl
no_second (Some a) = refl

module _ (f s : BufferType) (xs : List SecurityBuffer) where
  pub first_lacks : None ≡ position (is_unflagged f) xs → None ≡ pair_of (first_unflagged f xs) (first_unflagged s xs)
  first_lacks at = sym (ap (λ (o : Option SecurityBuffer). pair_of o (first_unflagged s xs)) (not_found (is_unflagged f) xs at))

  pub second_lacks : None ≡ position (is_unflagged s) xs → None ≡ pair_of (first_unflagged f xs) (first_unflagged s xs)
  second_lacks at = no_second (first_unflagged f xs)
      ∙ sym (ap (λ (o : Option SecurityBuffer). pair_of (first_unflagged f xs) o) (not_found (is_unflagged s) xs at))
