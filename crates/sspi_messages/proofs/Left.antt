-- What a message is once the buffers that a call takes have changed.
use Rattle.std.proofs.Common.{◌≡◌, ◌∙◌, ℕ, suc, ◌+◌, ◌==◌, ◌&&◌, ◌≢◌, Bool, true, false, cond, not, List, [], ◌∷◌, Some, sym, ap}
use Rattle.std.proofs.Common.{refl, arith}
use Rattle.std.specs.Prelude.{find, slice_set}
use Rattle.std.specs.List.{position_or_len}
use Rattle.sspi_types.specs.declared.buffer.SecurityBuffer.{SecurityBuffer}
use Rattle.sspi_types.specs.declared.buffer_type.BufferType.{BufferType}
use Rattle.sspi_types.specs.BufferTypes.{buffer_type_number}
use Rattle.sspi_messages.specs.Buffers.{is_unflagged, first_unflagged, with_bytes}

onward : {X : Type 0} (xs : List X) (x y : X) (n : ℕ) → slice_set (x ∷ xs) (1 + n) y ≡ x ∷ slice_set xs n y
onward xs x y n = let e : 1 + n ≡ suc n = omega arith in ap (λ k. slice_set (x ∷ xs) k y) e

same : {X : Type 0} (x y : X) → Some x ≡ Some y → x ≡ y
same x y e = cc

-- the element that is found, in its own place
pub set_same : {X : Type 0} (p : X → Bool) (xs : List X) (x : X) → find p xs ≡ Some x → slice_set xs (position_or_len p xs) x ≡ xs
set_same p [] x found = refl
set_same p (y ∷ ys) x found = by (p y) found (set_same p ys x)
  where
    by : (t : Bool) → cond t (Some y) (find p ys) ≡ Some x → (find p ys ≡ Some x → slice_set ys (position_or_len p ys) x ≡ ys) →
        slice_set (y ∷ ys) (cond (not t) (1 + position_or_len p ys) 0) x ≡ y ∷ ys
    by true here rest = ap (λ z. z ∷ ys) (sym (same y x here))
    by false later rest = onward ys y x (position_or_len p ys) ∙ ap (λ l. y ∷ l) (rest later)

-- the same buffer with these bytes
abbrev pub holding : SecurityBuffer → List ℕ → SecurityBuffer
holding x bytes = record x { buffer = bytes }

abbrev rebuffered : List ℕ → SecurityBuffer → SecurityBuffer
rebuffered bytes x = record x { buffer = bytes }

-- a buffer with other bytes, in place of the one that is taken
pub set_bytes : (type : BufferType) (bytes : List ℕ) (xs : List SecurityBuffer) (b b2 : SecurityBuffer) → first_unflagged type xs ≡ Some b →
    b2 ≡ record b { buffer = bytes } → slice_set xs (position_or_len (is_unflagged type) xs) b2 ≡ with_bytes type bytes xs
set_bytes type bytes [] b b2 found e = cc
set_bytes type bytes (x ∷ xs) b b2 found e = by (is_unflagged type x) found (λ later. set_bytes type bytes xs b b2 later e)
  where
    by : (t : Bool) → cond t (Some x) (first_unflagged type xs) ≡ Some b →
        (first_unflagged type xs ≡ Some b → slice_set xs (position_or_len (is_unflagged type) xs) b2 ≡ with_bytes type bytes xs) →
        slice_set (x ∷ xs) (cond (not t) (1 + position_or_len (is_unflagged type) xs) 0) b2
        ≡ cond t (record x { buffer = bytes } ∷ xs) (x ∷ with_bytes type bytes xs)
    by true here rest = ap (λ z. z ∷ xs) (e ∙ ap (rebuffered bytes) (sym (same x b here)))
    by false later rest = onward xs x b2 (position_or_len (is_unflagged type) xs) ∙ ap (λ l. x ∷ l) (rest later)

numbers : (n f s flags : ℕ) → f ≢ s → ((n == f) && (flags == 0)) ≡ true → ((n == s) && (flags == 0)) ≡ false
numbers n f s flags d e = grind arith

module _ (f s : BufferType) (d : buffer_type_number f ≢ buffer_type_number s) where
  -- a buffer is of one type
  pub apart : (x : SecurityBuffer) → is_unflagged f x ≡ true → is_unflagged s x ≡ false
  apart x e =
      numbers (buffer_type_number x.buffer_type.buffer_type) (buffer_type_number f) (buffer_type_number s) x.buffer_type.buffer_flags.0 d e

  pub found_apart : (bytes : List ℕ) (xs : List SecurityBuffer) → first_unflagged s (with_bytes f bytes xs) ≡ first_unflagged s xs
  found_apart bytes [] = refl
  found_apart bytes (x ∷ xs) = by (is_unflagged f x) (apart x) (found_apart bytes xs)
    where
      by : (t : Bool) → (t ≡ true → is_unflagged s x ≡ false) → first_unflagged s (with_bytes f bytes xs) ≡ first_unflagged s xs →
          first_unflagged s (cond t (record x { buffer = bytes } ∷ xs) (x ∷ with_bytes f bytes xs)) ≡ cond (is_unflagged s x) (Some x)
          (first_unflagged s xs)
      by true other rest = ap (λ u. cond u (Some (record x { buffer = bytes })) (first_unflagged s xs)) (other refl)
          ∙ sym (ap (λ u. cond u (Some x) (first_unflagged s xs)) (other refl))
      by false other rest = ap (λ l. cond (is_unflagged s x) (Some x) l) rest

  pub place_apart : (bytes : List ℕ) (xs : List SecurityBuffer) →
      position_or_len (is_unflagged s) (with_bytes f bytes xs) ≡ position_or_len (is_unflagged s) xs
  place_apart bytes [] = refl
  place_apart bytes (x ∷ xs) = by (is_unflagged f x) (place_apart bytes xs)
    where
      by : (t : Bool) → position_or_len (is_unflagged s) (with_bytes f bytes xs) ≡ position_or_len (is_unflagged s) xs →
          position_or_len (is_unflagged s) (cond t (record x { buffer = bytes } ∷ xs) (x ∷ with_bytes f bytes xs))
          ≡ cond (not (is_unflagged s x)) (1 + position_or_len (is_unflagged s) xs) 0
      by true rest = refl
      by false rest = ap (λ n. cond (not (is_unflagged s x)) (1 + n) 0) rest

  -- both buffers are changed, or only one of them
  module _ (xs : List SecurityBuffer) (a b : SecurityBuffer) (has_first : first_unflagged f xs ≡ Some a)
      (has_second : first_unflagged s xs ≡ Some b) where
    pub pair_left : (a2 b2 : SecurityBuffer) (x y : List ℕ) → a2 ≡ record a { buffer = x } → b2 ≡ record b { buffer = y } →
        slice_set (slice_set xs (position_or_len (is_unflagged f) xs) a2) (position_or_len (is_unflagged s) xs) b2 ≡ with_bytes s y
        (with_bytes f x xs)
    pair_left a2 b2 x y of_a of_b =
        ap (λ l. slice_set l (position_or_len (is_unflagged s) xs) b2) (set_bytes f x xs a a2 has_first of_a)
        ∙ ap (λ n. slice_set (with_bytes f x xs) n b2) (sym (place_apart x xs))
        ∙ set_bytes s y (with_bytes f x xs) b b2 (found_apart x xs ∙ has_second) of_b

    pub first_left : (a2 b2 : SecurityBuffer) (x : List ℕ) → a2 ≡ record a { buffer = x } → b2 ≡ b →
        slice_set (slice_set xs (position_or_len (is_unflagged f) xs) a2) (position_or_len (is_unflagged s) xs) b2 ≡ with_bytes f x xs
    first_left a2 b2 x of_a of_b =
        ap (λ l. slice_set l (position_or_len (is_unflagged s) xs) b2) (set_bytes f x xs a a2 has_first of_a)
        ∙ ap (λ n. slice_set (with_bytes f x xs) n b2) (sym (place_apart x xs))
        ∙ ap (λ z. slice_set (with_bytes f x xs) (position_or_len (is_unflagged s) (with_bytes f x xs)) z) of_b
        ∙ set_same (is_unflagged s) (with_bytes f x xs) b (found_apart x xs ∙ has_second)

    pub second_left : (a2 b2 : SecurityBuffer) (y : List ℕ) → a2 ≡ a → b2 ≡ record b { buffer = y } →
        slice_set (slice_set xs (position_or_len (is_unflagged f) xs) a2) (position_or_len (is_unflagged s) xs) b2 ≡ with_bytes s y xs
    second_left a2 b2 y of_a of_b =
        ap (λ z. slice_set (slice_set xs (position_or_len (is_unflagged f) xs) z) (position_or_len (is_unflagged s) xs) b2) of_a
        ∙ ap (λ l. slice_set l (position_or_len (is_unflagged s) xs) b2) (set_same (is_unflagged f) xs a has_first)
        ∙ set_bytes s y xs b b2 has_second of_b

    pub none_left : (a2 b2 : SecurityBuffer) → a2 ≡ a → b2 ≡ b →
        slice_set (slice_set xs (position_or_len (is_unflagged f) xs) a2) (position_or_len (is_unflagged s) xs) b2 ≡ xs
    none_left a2 b2 of_a of_b =
        ap (λ z. slice_set (slice_set xs (position_or_len (is_unflagged f) xs) z) (position_or_len (is_unflagged s) xs) b2) of_a
        ∙ ap (λ l. slice_set l (position_or_len (is_unflagged s) xs) b2) (set_same (is_unflagged f) xs a has_first)
        ∙ ap (λ z. slice_set xs (position_or_len (is_unflagged s) xs) z) of_b
        ∙ set_same (is_unflagged s) xs b has_second
