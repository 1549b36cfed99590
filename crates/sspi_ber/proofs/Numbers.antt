-- Reading a number byte by byte.
use Rattle.std.proofs.Common.{◌≡◌, ℕ, ◌+◌, ◌*◌, ◌^◌, ◌<◌, ◌≤◌, List, [], ◌∷◌, length, get_or, take, drop, Option}
use Rattle.std.proofs.Common.{None, Some, Ok, Err, refl, ap, ◌∙◌, subst, inl, inr, add-one, arith, lit<}
use Rattle.std.proofs.Math.Nat.{pow-suc, pow-le-pow_right}
use Rattle.std.proofs.lemmas.Bool.{cases_lt, lt-ltb, le-ltb}
use Rattle.std.proofs.lemmas.List.{drop_more, drop_all, take_more}
use Rattle.std.proofs.lemmas.List.Sums.{fold_push}
use Rattle.sspi_ber.specs.declared.wire_kind.WireKind.{WireKind}
use Rattle.sspi_ber.specs.declared.wire_kind.WireKind.TheVariants.{UnexpectedEof, InvalidData, ReadFault, WriteFault, InsufficientMemory}
use Rattle.sspi_ber.specs.Pieces.{Ended, Invalid, byte_at, bytes_at, number_at}
use Rattle.sspi_ber.specs.Forms.{big_endian}
use Rattle.sspi_ber.specs.Outside.{Answers, Reads}

-- i bytes were read, and they represent this number
abbrev pub ReadSoFar : Option (List ℕ) → Option (List ℕ) → ℕ → ℕ → Type 0
ReadSoFar None now value i = Unit {0}
ReadSoFar (Some bytes) now value i = (i ≤ length bytes) × (now ≡ Some (drop i bytes)) × (value ≡ big_endian (take i bytes))

pub so_far_start : (known : Option (List ℕ)) → ReadSoFar known known 0 0
so_far_start None = tt
so_far_start (Some bytes) = (omega arith, refl, refl)

push : (bytes : List ℕ) (i value byte : ℕ) → i < length bytes → byte ≡ get_or bytes i 0 → value ≡ big_endian (take i bytes)
    → value * 256 + byte ≡ big_endian (take (i + 1) bytes)
push bytes i value byte lt byte-is value-is =
    let more : big_endian (take (i + 1) bytes) ≡ big_endian (take i bytes) * 256 + get_or bytes i 0 =
    ap big_endian (take_more bytes i 0 lt) ∙ fold_push (λ (high b : ℕ). high * 256 + b) 0 (take i bytes) (get_or bytes i 0) in
    rw (more, byte-is, value-is) refl

one_more : (bytes : List ℕ) (after : Option (List ℕ)) (value i byte : ℕ) → i ≤ length bytes → value ≡ big_endian (take i bytes)
    → Answers (λ (b : ℕ). b) after (Ok byte) (byte_at (drop i bytes)) → ReadSoFar (Some bytes) after (value * 256 + byte) (i + 1)
one_more bytes after value i byte le value-is h =
    elim (cases_lt i (length bytes)) [
      | inl lt ↦
          let k = subst (λ (l : List ℕ). Answers (λ (b : ℕ). b) after (Ok byte) (byte_at l)) (drop_more bytes i 0 lt) h in
          (omega arith, k.1, push bytes i value byte lt k.0 value-is)
      | inr ge ↦ absurd (subst (λ (l : List ℕ). Answers (λ (b : ℕ). b) after (Ok byte) (byte_at l)) (drop_all i bytes ge) h)
    ]

pub so_far_step : (before mid after : Option (List ℕ)) (value i byte : ℕ) → ReadSoFar before mid value i
    → Reads (λ (b : ℕ). b) mid after (Ok byte) byte_at → ReadSoFar before after (value * 256 + byte) (i + 1)
so_far_step None mid after value i byte s h = tt
so_far_step (Some bytes) mid after value i byte s h =
    one_more bytes after value i byte s.0 s.2 (subst (λ (m : Option (List ℕ)). Reads (λ (b : ℕ). b) m after (Ok byte) byte_at) s.1 h)

whole : (bytes : List ℕ) (size : ℕ) → size ≤ length bytes → number_at size bytes ≡ Ok (big_endian (take size bytes), drop size bytes)
unfolding number_at bytes_at
whole bytes size le = rw (le-ltb (length bytes) size le) refl

short : (bytes : List ℕ) (size : ℕ) → length bytes < size → number_at size bytes ≡ Err Ended
unfolding number_at bytes_at
short bytes size lt = rw (lt-ltb (length bytes) size lt) refl

pub so_far_done : (before now : Option (List ℕ)) (value size : ℕ) → ReadSoFar before now value size →
    Reads (λ (n : ℕ). n) before now (Ok value) (number_at size)
so_far_done None now value size s = tt
so_far_done (Some bytes) now value size s = rw (whole bytes size s.0) (s.2, s.1)

ended : (bytes : List ℕ) (i : ℕ) → byte_at (drop i bytes) ≡ Err Ended → length bytes ≤ i
ended bytes i e =
    elim (cases_lt i (length bytes)) [
      | inl lt ↦ absurd
          (let f : byte_at (get_or bytes i 0 ∷ drop (i + 1) bytes) ≡ Err Ended = subst (λ (l : List ℕ). byte_at l ≡ Err Ended)
          (drop_more bytes i 0 lt) e in cc)
      | inr ge ↦ ge
    ]

never_invalid : (bytes : List ℕ) → byte_at bytes ≡ Err Invalid → ⊥
never_invalid [] e = cc
never_invalid (b ∷ bytes) e = cc

stopped : (bytes : List ℕ) (after : Option (List ℕ)) (i size : ℕ) (kind : WireKind) → i < size
    → Answers {X = ℕ} (λ (b : ℕ). b) after (Err kind) (byte_at (drop i bytes)) → Answers {X = ℕ} (λ (n : ℕ). n) after (Err kind)
    (number_at size bytes)
stopped bytes after i size UnexpectedEof lt h = short bytes size (let le : length bytes ≤ i = ended bytes i h in omega arith)
stopped bytes after i size InvalidData lt h = absurd (never_invalid (drop i bytes) h)
stopped bytes after i size ReadFault lt h = tt
stopped bytes after i size WriteFault lt h = tt
stopped bytes after i size InsufficientMemory lt h = tt

pub so_far_stopped : (before mid after : Option (List ℕ)) (value i size : ℕ) (kind : WireKind) → i < size → ReadSoFar before mid value i
    → Reads {X = ℕ} (λ (b : ℕ). b) mid after (Err kind) byte_at → Reads {X = ℕ} (λ (n : ℕ). n) before after (Err kind) (number_at size)
so_far_stopped None mid after value i size kind lt s h = tt
so_far_stopped (Some bytes) mid after value i size kind lt s h =
    stopped bytes after i size kind lt (subst (λ (m : Option (List ℕ)). Reads {X = ℕ} (λ (b : ℕ). b) m after (Err kind) byte_at) s.1 h)

pub bound_step : (value i byte : ℕ) → value < 256 ^ i → byte < 256 → value * 256 + byte < 256 ^ (i + 1)
bound_step value i byte lt small = rw (add-one i, pow-suc 256 i) (omega arith)

pub fits_u64 : (value i : ℕ) → value < 256 ^ i → i ≤ 8 → value < 2 ^ 64
fits_u64 value i lt le = let top : 256 ^ i ≤ 256 ^ 8 = pow-le-pow_right (lit< tt) {j = 8} le in omega arith
