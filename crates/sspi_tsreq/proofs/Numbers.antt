-- Lengths and numbers that are read byte by byte.
use Rattle.std.proofs.Common.{◌≡◌, ℕ, zero, suc, ◌+◌, ◌-◌, ◌*◌, ◌%◌, ◌^◌, ◌<◌, ◌≤◌, true, false, cond, ltb, leb, List, [], ◌∷◌, ◌++◌}
use Rattle.std.proofs.Common.{length, take, drop, fold, Ok, Err, refl, sym, ap, ◌∙◌, inl, inr, arith}
use Rattle.std.proofs.lemmas.Bool.{cases_lt, lt-ltb, le-ltb, le-leb, lt-leb}
use Rattle.std.proofs.lemmas.List.{length-append}
use Rattle.std.proofs.Math.Seq.{take-append-add, drop-append-add}
use Rattle.sspi_ber.specs.Pieces.{Ended, Invalid, Read, ◌>>=◌, bytes_at, is_octet_count, limited_at, length_at, number_at}
use Rattle.sspi_ber.specs.Forms.{big_endian, is_integer_size, max_content}
use Rattle.sspi_ber.proofs.Match.{read_of}
use Rattle.sspi_tsreq.specs.declared.place.LengthStep.{LengthStep}
use Rattle.sspi_tsreq.specs.declared.place.LengthStep.TheVariants.{Part, Known, Bad}
use Rattle.sspi_tsreq.specs.Places.{limited_from, low_from, sized_low}
use Rattle.sspi_tsreq.specs.Walks.{LengthLasts, LengthSteps}

-- ---- bytes

abbrev pub put_before : List ℕ → List ℕ × List ℕ → Read (List ℕ)
put_before front read = Ok (front ++ read.0, read.1)

pub bytes_short : (n : ℕ) (b : List ℕ) → length b < n → bytes_at n b ≡ Err Ended
unfolding bytes_at
bytes_short n b lt = rw (lt-ltb (length b) n lt) refl

pub bytes_there : (n : ℕ) (b : List ℕ) → n ≤ length b → bytes_at n b ≡ Ok (take n b, drop n b)
unfolding bytes_at
bytes_there n b le = rw (le-ltb (length b) n le) refl

pub none_left : (b : List ℕ) → bytes_at 0 b ≡ Ok ([], b)
none_left b = bytes_there 0 b (omega arith)

-- after a prefix of what is read
pub bytes_behind : (front more : List ℕ) (n : ℕ) → bytes_at (length front + n) (front ++ more) ≡ bytes_at n more >>= put_before front
bytes_behind front more n =
    elim (cases_lt (length more) n) [
      | inl lt ↦
          bytes_short (length front + n) (front ++ more) (omega (arith, lt, length-append front more))
          ∙ sym (ap (λ (z : Read (List ℕ)). z >>= put_before front) (bytes_short n more lt))
      | inr le ↦
          bytes_there (length front + n) (front ++ more) (omega (arith, le, length-append front more))
          ∙ ap (λ (l : List ℕ). read_of l (drop (length front + n) (front ++ more))) (take-append-add front more n)
          ∙ ap (λ (l : List ℕ). read_of (front ++ take n more) l) (drop-append-add front more n)
          ∙ sym (ap (λ (z : Read (List ℕ)). z >>= put_before front) (bytes_there n more le))
    ]

pub byte_behind : (byte : ℕ) (more : List ℕ) (n : ℕ) → bytes_at (n + 1) (byte ∷ more) ≡ bytes_at n more >>= put_before (byte ∷ [])
byte_behind byte more n = ap (λ (k : ℕ). bytes_at k (byte ∷ more)) (omega arith) ∙ bytes_behind (byte ∷ []) more n

-- two steps in one
pub map_then : {A B C : Type 0} (z : Read A) (f : A × List ℕ → B × List ℕ) (k : B × List ℕ → Read C) →
    ((z >>= λ x. Ok (f x)) >>= k) ≡ (z >>= λ x. k (f x))
map_then (Ok x) f k = refl
map_then (Err fault) f k = refl

-- ---- lengths

abbrev long_length : ℕ → List ℕ → ℕ
long_length value octets = fold (λ (high byte : ℕ). high * 256 + byte) value octets

abbrev limited_of : ℕ → List ℕ × List ℕ → Read ℕ
limited_of value octets = cond (leb (long_length value octets.0) max_content) (Ok (long_length value octets.0, octets.1)) (Err Invalid)

pub limited_step : (value byte n : ℕ) (more : List ℕ) → limited_from value (n + 1) (byte ∷ more) ≡ limited_from (value * 256 + byte) n more
unfolding limited_from
limited_step value byte n more =
    ap (λ (z : Read (List ℕ)). z >>= limited_of value) (byte_behind byte more n)
    ∙ map_then (bytes_at n more) (λ read. ((byte ∷ []) ++ read.0, read.1)) (limited_of value)

pub limited_last : (value : ℕ) (more : List ℕ) → limited_from value 0 more ≡ cond (leb value max_content) (Ok (value, more)) (Err Invalid)
unfolding limited_from
limited_last value more = ap (λ (z : Read (List ℕ)). z >>= limited_of value) (none_left more)

limited_start : (count : ℕ) (bytes : List ℕ) → limited_at count bytes ≡ limited_from 0 count bytes
unfolding limited_at number_at limited_from
limited_start count bytes =
    map_then (bytes_at count bytes) (λ read. (big_endian read.0, read.1))
    (λ (n : ℕ × List ℕ). cond (leb n.0 max_content) (Ok n) (Err Invalid))

-- a length's first octet
length_by : (byte : ℕ) (more : List ℕ) → length_at (byte ∷ more) ≡ cond (ltb byte 0x80) (Ok (byte, more))
    (cond (is_octet_count (byte - 0x80)) (limited_at (byte - 0x80) more) (Err Invalid))
unfolding length_at
length_by byte more = refl

pub short_first : (byte : ℕ) (more : List ℕ) → byte < 0x80 → length_at (byte ∷ more) ≡ Ok (byte, more)
short_first byte more lt = length_by byte more ∙ rw (lt-ltb byte 0x80 lt) refl

pub one_first : (byte : ℕ) (more : List ℕ) → byte ≡ 0x81 → length_at (byte ∷ more) ≡ limited_from 0 1 more
one_first byte more e = rw e (length_by 0x81 more ∙ limited_start 1 more)

pub two_first : (byte : ℕ) (more : List ℕ) → byte ≡ 0x82 → length_at (byte ∷ more) ≡ limited_from 0 2 more
two_first byte more e = rw e (length_by 0x82 more ∙ limited_start 2 more)

pub three_first : (byte : ℕ) (more : List ℕ) → byte ≡ 0x83 → length_at (byte ∷ more) ≡ limited_from 0 3 more
three_first byte more e = rw e (length_by 0x83 more ∙ limited_start 3 more)

no_count : (k : ℕ) → (k ≡ 1 → ⊥) → (k ≡ 2 → ⊥) → (k ≡ 3 → ⊥) → is_octet_count k ≡ false
no_count k a b c =
    elim (cases_lt k 1) [
      | inl lt ↦ rw (lt-leb 1 k lt) refl
      | inr ge ↦ rw (le-leb 1 k ge, lt-leb k 3 (omega (arith, ge, a, b, c))) refl
    ]

pub bad_first : (byte : ℕ) (more : List ℕ) → 0x80 ≤ byte → (byte ≡ 0x81 → ⊥) → (byte ≡ 0x82 → ⊥) → (byte ≡ 0x83 → ⊥) →
    length_at (byte ∷ more) ≡ Err Invalid
bad_first byte more le a b c =
    let none : is_octet_count (byte - 0x80) ≡ false =
    no_count (byte - 0x80) (λ e. a (omega (arith, e, le))) (λ e. b (omega (arith, e, le))) (λ e. c (omega (arith, e, le))) in
    length_by byte more ∙ rw (le-ltb byte 0x80 le, none) refl

pub length_lasts : (step : LengthStep) (value byte len : ℕ) (more : List ℕ) → len ≡ value * 256 + byte → LengthLasts step len
    → LengthSteps (limited_from value 1 (byte ∷ more)) step more
length_lasts (Part part) value byte len more e h = absurd h
length_lasts (Known n) value byte len more e h =
    limited_step value byte 0 more ∙ limited_last (value * 256 + byte) more ∙ rw (sym e, le-leb len max_content h.1, h.0) refl
length_lasts Bad value byte len more e h = limited_step value byte 0 more ∙ limited_last (value * 256 + byte) more ∙ rw
    (sym e, lt-leb len max_content h) refl

-- ---- numbers

abbrev grow : ℕ → ℕ → ℕ
grow high byte = (high * 256 + byte) % 2 ^ 32

pub low_step : (value byte n : ℕ) (more : List ℕ) → low_from value (n + 1) (byte ∷ more) ≡ low_from ((value * 256 + byte) % 2 ^ 32) n more
unfolding low_from
low_step value byte n more =
    ap (λ (z : Read (List ℕ)). z >>= λ x. Ok (fold grow value x.0, x.1)) (byte_behind byte more n)
    ∙ map_then (bytes_at n more) (λ read. ((byte ∷ []) ++ read.0, read.1)) (λ x. Ok (fold grow value x.0, x.1))

pub low_last : (value : ℕ) (more : List ℕ) → low_from value 0 more ≡ Ok (value, more)
unfolding low_from
low_last value more = ap (λ (z : Read (List ℕ)). z >>= λ x. Ok (fold grow value x.0, x.1)) (none_left more)

cut_grow : (high byte : ℕ) → grow (high % 2 ^ 32) byte ≡ (high * 256 + byte) % 2 ^ 32
cut_grow high byte = omega arith

low_fold : (value : ℕ) (bytes : List ℕ) → fold (λ (high byte : ℕ). high * 256 + byte) value bytes % 2 ^ 32 ≡ fold grow
    (value % 2 ^ 32) bytes
low_fold value [] = refl
low_fold value (byte ∷ bytes) = low_fold (value * 256 + byte) bytes ∙ ap (λ (v : ℕ). fold grow v bytes) (sym (cut_grow value byte))

abbrev low_of : ℕ × List ℕ → Read ℕ
low_of w = Ok (w.0 % 2 ^ 32, w.1)

abbrev ends_of : List ℕ × List ℕ → Read ℕ
ends_of x = Ok (big_endian x.0, x.1)

abbrev grown_of : List ℕ × List ℕ → Read ℕ
grown_of x = Ok (fold grow 0 x.0, x.1)

low_numbers : (z : Read (List ℕ)) → ((z >>= ends_of) >>= low_of) ≡ (z >>= grown_of)
low_numbers (Ok x) = ap (λ (v : ℕ). read_of v x.1) (low_fold 0 x.0)
low_numbers (Err fault) = refl

pub low_start : (n : ℕ) (bytes : List ℕ) → (number_at n bytes >>= low_of) ≡ low_from 0 n bytes
unfolding number_at low_from
low_start n bytes = low_numbers (bytes_at n bytes)

sized_start : (n k : ℕ) (bytes : List ℕ) → is_integer_size n ≡ true → n ≡ k + 1 → sized_low n bytes ≡ low_from 0 (k + 1) bytes
sized_start n k bytes size e = rw size (low_start n bytes) ∙ ap (λ (i : ℕ). low_from 0 i bytes) e

some_size : (n : ℕ) → is_integer_size n ≡ true → 1 ≤ n
some_size zero e = absurd cc
some_size (suc n) e = omega arith

pub sized_begun : (n : ℕ) (bytes : List ℕ) → is_integer_size n ≡ true → sized_low n bytes ≡ low_from 0 (n - 1 + 1) bytes
sized_begun n bytes size = sized_start n (n - 1) bytes size (let some = some_size n size in omega arith)
