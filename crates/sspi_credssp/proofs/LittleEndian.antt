-- The walk of a carry over a little-endian number, and that it adds or subtracts one.
use Rattle.std.proofs.Common.{◌≡◌, ℕ, zero, suc, ◌+◌, ◌-◌, ◌*◌, ◌/◌, ◌%◌, ◌^◌, ◌<◌, ◌≤◌, ◌≢◌, inl, inr, false, add-one, lit<, cond}
use Rattle.std.proofs.Common.{eqb, List, [], ◌∷◌, ◌++◌, length, take, drop, get_or, All, refl, sym, ◌∙◌, ap, arith}
use Rattle.std.proofs.lemmas.Bool.Decides.{eqb_tells}
use Rattle.std.proofs.lemmas.List.Elements.{All-head, All-tail}
use Rattle.std.proofs.Math.Dec.{eqb-suc-zero}
use Rattle.std.proofs.Math.ListN.{set}
use Rattle.std.proofs.Math.Nat.{pow-suc}
use Rattle.sspi_credssp.specs.Exchange.{little_endian, bytes_of, incremented, decremented}

abbrev pub AreBytes : List ℕ → Type 0
AreBytes [] = Unit {0}
AreBytes (b ∷ bs) = (b < 256) × AreBytes bs

abbrev pub carried : List ℕ → List ℕ
carried [] = []
carried (b ∷ bs) = cond (eqb b 255) (0 ∷ carried bs) ((b + 1) ∷ bs)

abbrev pub borrowed : List ℕ → List ℕ
borrowed [] = []
borrowed (b ∷ bs) = cond (eqb b 0) (255 ∷ borrowed bs) ((b - 1) ∷ bs)

-- a number made of one byte and 256 times the rest splits into both again
pub low_byte : (b n : ℕ) → b < 256 → (b + 256 * n) % 256 ≡ b
low_byte b n h = omega arith

pub high_bytes : (b n : ℕ) → b < 256 → (b + 256 * n) / 256 ≡ n
high_bytes b n h = omega arith

pub digits : (k b n v : ℕ) → b < 256 → v ≡ b + 256 * n → bytes_of (suc k) v ≡ b ∷ bytes_of k n
digits k b n v h e = rw (e, low_byte b n h, high_bytes b n h)

pub bytes_of-little_endian : (bs : List ℕ) → AreBytes bs → bytes_of (length bs) (little_endian bs) ≡ bs
bytes_of-little_endian [] h = refl
bytes_of-little_endian (b ∷ bs) h =
    digits (length bs) b (little_endian bs) _ h.0 refl ∙ ap (λ xs. b ∷ xs) (bytes_of-little_endian bs h.1)

-- adding a multiple of 256 leaves the low byte unchanged
pub low_wrap : (n m : ℕ) → (n + 256 * m) % 256 ≡ n % 256
low_wrap n m = omega arith

pub high_wrap : (n m : ℕ) → (n + 256 * m) / 256 ≡ n / 256 + m
high_wrap n m = omega arith

pub power_suc : (k : ℕ) → 256 ^ suc k ≡ 256 * 256 ^ k
power_suc k = rw (pow-suc 256 k) (omega arith)

-- a number plus 256^k encodes the same k bytes
pub bytes_of-wrap : (k n : ℕ) → bytes_of k (n + 256 ^ k) ≡ bytes_of k n
bytes_of-wrap zero n = refl
bytes_of-wrap (suc k) n =
    rw (power_suc k, low_wrap n (256 ^ k), high_wrap n (256 ^ k)) (ap (λ xs. n % 256 ∷ xs) (bytes_of-wrap k (n / 256)))

pub carry_on : (v : ℕ) → 255 + 256 * v + 1 ≡ 0 + 256 * (v + 1)
carry_on v = omega arith

pub carry_in : (b v : ℕ) → b + 256 * v + 1 ≡ (b + 1) + 256 * v
carry_in b v = omega arith

pub carried-adds : (bs : List ℕ) → AreBytes bs → carried bs ≡ bytes_of (length bs) (little_endian bs + 1)
carried-adds [] h = refl
carried-adds (b ∷ bs) h =
    let v = little_endian bs in
    let in_range : b < 256 = h.0 in
    elim (eqb_tells b 255) [
      | inl w ↦ rw w.0 (ap (λ xs. 0 ∷ xs) (carried-adds bs h.1) ∙ sym
          (digits (length bs) 0 (v + 1) (b + 256 * v + 1) (lit< tt) (let e : b ≡ 255 = w.1 in omega arith)))
      | inr w ↦ rw w.0 (ap (λ xs. (b + 1) ∷ xs) (sym (bytes_of-little_endian bs h.1)) ∙ sym
          (digits (length bs) (b + 1) v (b + 256 * v + 1) (let d : b ≢ 255 = w.1 in omega arith) (omega arith)))
    ]

pub power_positive : (k : ℕ) → 1 ≤ 256 ^ k
power_positive zero = omega arith
power_positive (suc k) = let p : 1 ≤ 256 ^ k = power_positive k in rw (power_suc k) (omega arith)

pub borrowed-takes : (bs : List ℕ) → AreBytes bs → borrowed bs ≡ bytes_of (length bs) (little_endian bs + (256 ^ length bs - 1))
borrowed-takes [] h = refl
borrowed-takes (b ∷ bs) h =
    let v = little_endian bs in
    let p = 256 ^ length bs in
    let q : 1 ≤ p = power_positive (length bs) in
    let in_range : b < 256 = h.0 in
    elim (eqb_tells b 0) [
      | inl w ↦ rw (w.0, power_suc (length bs)) (ap (λ xs. 255 ∷ xs) (borrowed-takes bs h.1) ∙ sym
          (digits (length bs) 255 (v + (p - 1)) (b + 256 * v + (256 * p - 1)) (lit< tt) (let e : b ≡ 0 = w.1 in omega arith)))
      | inr w ↦ rw (w.0, power_suc (length bs)) (ap (λ xs. (b - 1) ∷ xs)
          (sym (bytes_of-little_endian bs h.1) ∙ sym (bytes_of-wrap (length bs) v)) ∙ sym
          (digits (length bs) (b - 1) (v + p) (b + 256 * v + (256 * p - 1)) (omega arith) (let d : b ≢ 0 = w.1 in omega arith)))
    ]

pub AreBytes-each : (bs : List ℕ) → ((k : ℕ) → get_or bs k 0 < 256) → AreBytes bs
AreBytes-each [] h = tt
AreBytes-each (b ∷ bs) h = (h 0, AreBytes-each bs (λ k. h (suc k)))

pub AreBytes-all : (bs : List ℕ) → All (λ b. b < 256) bs → AreBytes bs
AreBytes-all [] h = tt
AreBytes-all (b ∷ bs) h = (All-head (λ b. b < 256) b bs h, AreBytes-all bs (All-tail (λ b. b < 256) b bs h))

pub carried-incremented : (bs : List ℕ) → AreBytes bs → carried bs ≡ incremented bs
unfolding incremented
carried-incremented bs h = carried-adds bs h

pub borrowed-decremented : (bs : List ℕ) → AreBytes bs → borrowed bs ≡ decremented bs
unfolding decremented
borrowed-decremented bs h = borrowed-takes bs h

pub carried-bytes : (bs : List ℕ) → AreBytes bs → AreBytes (carried bs)
carried-bytes [] h = tt
carried-bytes (b ∷ bs) h =
    let in_range : b < 256 = h.0 in
    elim (eqb_tells b 255) [
      | inl w ↦ rw w.0 (lit< tt, carried-bytes bs h.1)
      | inr w ↦ rw w.0 (let d : b ≢ 255 = w.1 in omega arith, h.1)
    ]

eqb_positive : (b : ℕ) → eqb (b + 1) 0 ≡ false
eqb_positive b = rw add-one (eqb-suc-zero b)

pub borrowed-carried : (bs : List ℕ) → AreBytes bs → borrowed (carried bs) ≡ bs
borrowed-carried [] h = refl
borrowed-carried (b ∷ bs) h =
    elim (eqb_tells b 255) [
      | inl w ↦ rw w.0 (ap (λ xs. 255 ∷ xs) (borrowed-carried bs h.1) ∙ ap (λ x. x ∷ bs) (sym w.1))
      | inr w ↦ rw (w.0, eqb_positive b) (ap (λ x. x ∷ bs) (let e : b + 1 - 1 ≡ b = omega arith in e))
    ]

-- decrementing undoes incrementing
pub decremented-incremented : (bs : List ℕ) → AreBytes bs → decremented (incremented bs) ≡ bs
decremented-incremented bs h =
    rw (sym (carried-incremented bs h)) (sym (borrowed-decremented (carried bs) (carried-bytes bs h)) ∙ borrowed-carried bs h)

borrowed-bytes : (bs : List ℕ) → AreBytes bs → AreBytes (borrowed bs)
borrowed-bytes [] h = tt
borrowed-bytes (b ∷ bs) h =
    let in_range : b < 256 = h.0 in
    elim (eqb_tells b 0) [
      | inl w ↦ rw w.0 (lit< tt, borrowed-bytes bs h.1)
      | inr w ↦ rw w.0 (omega arith, h.1)
    ]

below_last : (b : ℕ) → b < 256 → b ≢ 0 → eqb (b - 1) 255 ≡ false
below_last b h d = elim (eqb_tells (b - 1) 255) [ inl w ↦ absurd (let e : b - 1 ≡ 255 = w.1 in omega arith) | inr w ↦ w.0 ]

carried-borrowed : (bs : List ℕ) → AreBytes bs → carried (borrowed bs) ≡ bs
carried-borrowed [] h = refl
carried-borrowed (b ∷ bs) h =
    let in_range : b < 256 = h.0 in
    elim (eqb_tells b 0) [
      | inl w ↦ rw w.0 (ap (λ xs. 0 ∷ xs) (carried-borrowed bs h.1) ∙ ap (λ x. x ∷ bs) (sym w.1))
      | inr w ↦ rw (w.0, below_last b in_range w.1)
          (ap (λ x. x ∷ bs) (let d : b ≢ 0 = w.1 in let e : b - 1 + 1 ≡ b = omega arith in e))
    ]

-- incrementing undoes decrementing
pub incremented-decremented : (bs : List ℕ) → AreBytes bs → incremented (decremented bs) ≡ bs
incremented-decremented bs h =
    rw (sym (borrowed-decremented bs h)) (sym (carried-incremented (borrowed bs) (borrowed-bytes bs h)) ∙ carried-borrowed bs h)

-- a walk that stops has written one more byte, and leaves the rest as it was
pub carried_stops : (i : ℕ) (bs : List ℕ) → i < length bs → get_or bs i 0 ≢ 255 →
    take i bs ++ carried (drop i bs) ≡ set bs i (get_or bs i 0 + 1)
carried_stops i [] h n = absurd (omega arith)
carried_stops zero (b ∷ bs) h n = rw eqb-no refl where
  eqb-no : eqb b 255 ≡ false
  eqb-no = elim (eqb_tells b 255) [ inl w ↦ absurd (n w.1) | inr w ↦ w.0 ]
carried_stops (suc i) (b ∷ bs) h n = ap (λ xs. b ∷ xs) (carried_stops i bs (omega arith) n)

pub borrowed_stops : (i : ℕ) (bs : List ℕ) → i < length bs → get_or bs i 0 ≢ 0 →
    take i bs ++ borrowed (drop i bs) ≡ set bs i (get_or bs i 0 - 1)
borrowed_stops i [] h n = absurd (omega arith)
borrowed_stops zero (b ∷ bs) h n = rw eqb-no refl where
  eqb-no : eqb b 0 ≡ false
  eqb-no = elim (eqb_tells b 0) [ inl w ↦ absurd (n w.1) | inr w ↦ w.0 ]
borrowed_stops (suc i) (b ∷ bs) h n = ap (λ xs. b ∷ xs) (borrowed_stops i bs (omega arith) n)

-- a walk past the last byte has written them all
pub carried_ends : (i : ℕ) (bs : List ℕ) → length bs ≤ i → take i bs ++ carried (drop i bs) ≡ bs
carried_ends zero [] h = refl
carried_ends (suc i) [] h = refl
carried_ends zero (b ∷ bs) h = absurd (omega arith)
carried_ends (suc i) (b ∷ bs) h = ap (λ xs. b ∷ xs) (carried_ends i bs (omega arith))

pub borrowed_ends : (i : ℕ) (bs : List ℕ) → length bs ≤ i → take i bs ++ borrowed (drop i bs) ≡ bs
borrowed_ends zero [] h = refl
borrowed_ends (suc i) [] h = refl
borrowed_ends zero (b ∷ bs) h = absurd (omega arith)
borrowed_ends (suc i) (b ∷ bs) h = ap (λ xs. b ∷ xs) (borrowed_ends i bs (omega arith))
