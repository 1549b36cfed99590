-- A buffer type's number: its type in the low 28 bits, its flags in the high 4.
use Rattle.std.proofs.Common.{◌≡◌, ◌∙◌, ◌+◌, ◌*◌, ◌/◌, ◌%◌, ◌^◌, ◌<◌, ◌≤◌, ℕ, true, eqb, T, sym, ap, subst, refl, arith}
use Rattle.std.proofs.lemmas.Bool.{agree_below, agree_below_at}
use Rattle.std.proofs.lemmas.Nat.{and_assoc, and_block, and_mask, and_le_r, or_block}
use Rattle.std.specs.Int.Bits.{and_zero_r, or_zero_l, or_zero_r}
use Rattle.std.specs.Int.RustNames.{bit_and, bit_or}
use lib.Dec.{eqb→eq}
use Rattle.sspi_types.specs.declared.buffer_type.BufferType.{BufferType}
use Rattle.sspi_types.specs.declared.buffer_type.BufferType.TheVariants as type
use Rattle.sspi_types.specs.BufferTypes.{buffer_type_number}
use Rattle.sspi_types.specs.SecurityBufferTypes.{type_bits, flag_bits, IsBufferTypeNumber}

-- an equation that can be computed at each number below a literal n
equal_below : (f g : ℕ → ℕ) (n k : ℕ) → agree_below (λ x. eqb (f x) (g x)) (λ x. true) n ≡ true → k < n → f k ≡ g k
equal_below f g n k all below =
    eqb→eq (f k) (g k) (subst T (sym (agree_below_at (λ x. eqb (f x) (g x)) (λ x. true) n k all below)) tt)

-- a mask of high bits reads only the high part
high_bits : (n mask : ℕ) → bit_and n (mask * 2 ^ 28) ≡ bit_and (n / 2 ^ 28) mask * 2 ^ 28
high_bits n mask =
    let parts : n ≡ n / 2 ^ 28 * 2 ^ 28 + n % 2 ^ 28 = omega arith in
    let shifted : mask * 2 ^ 28 ≡ mask * 2 ^ 28 + 0 = omega arith in
    let low : bit_and (n % 2 ^ 28) 0 ≡ 0 = omega (arith, and_le_r (n % 2 ^ 28) 0) in
    (λ i. bit_and (parts i) (shifted i)) ∙ and_block 28 (n / 2 ^ 28) mask (n % 2 ^ 28) 0 (omega arith) (omega arith) ∙ omega arith

-- the flags are the two named bits and the two others
pub flag_bits_split : (n : ℕ) → n < 2 ^ 32 → flag_bits n ≡ bit_and n 0x90000000 + bit_and n 0x60000000
flag_bits_split n small =
    let split = equal_below (λ h. bit_and h 15) (λ h. bit_and h 9 + bit_and h 6) 16 (n / 2 ^ 28) refl (omega arith) in
    let all = high_bits n 15 in
    let named = high_bits n 9 in
    let others = high_bits n 6 in
    omega arith

-- the named flags among them
pub named_bits : (n : ℕ) → bit_and (flag_bits n) 0x90000000 ≡ bit_and n 0x90000000
named_bits n = and_assoc 0x90000000 n 0xf0000000

-- a type whose number has 28 bits is one of 0 to 18
pub low_number : (kind : BufferType) (n : ℕ) → buffer_type_number kind ≡ type_bits n → type_bits n ≤ 18
low_number type.Empty n e = omega (arith, and_le_r n 0x0fffffff)
low_number _ n e = omega (arith, and_le_r n 0x0fffffff)

-- each number from 0 to 18 is that of a type
pub no_number : (n : ℕ) → ((kind : BufferType) → buffer_type_number kind ≡ n → ⊥) → 18 < n
no_number n none =
    omega (
      arith,
      none type.Empty,
      none type.Data,
      none type.Token,
      none type.TransportToPackageParameters,
      none type.Missing,
      none type.Extra,
      none type.StreamTrailer,
      none type.StreamHeader,
      none type.NegotiationInfo,
      none type.Padding,
      none type.Stream,
      none type.ObjectIdsList,
      none type.ObjectIdsListSignature,
      none type.Target,
      none type.ChannelBindings,
      none type.ChangePasswordResponse,
      none type.TargetHost,
      none type.Alert,
      none type.ApplicationProtocol,
    )

-- the low bits are the remainder
low_bits : (n : ℕ) → type_bits n ≡ n % 2 ^ 28
low_bits n = and_mask n 28

-- the flags of a number of 32 bits are all of its high part
high_part : (n : ℕ) → n < 2 ^ 32 → flag_bits n ≡ n / 2 ^ 28 * 2 ^ 28
high_part n small =
    let all = equal_below (λ h. bit_and h 15) (λ h. h) 16 (n / 2 ^ 28) refl (omega arith) in
    let masked = high_bits n 15 in
    omega arith

-- a type together with flags
joined : (kind high : ℕ) → kind < 2 ^ 28 → bit_or kind (high * 2 ^ 28) ≡ high * 2 ^ 28 + kind
joined kind high small =
    let left : kind ≡ 0 * 2 ^ 28 + kind = omega arith in
    let right : high * 2 ^ 28 ≡ high * 2 ^ 28 + 0 = omega arith in
    (λ i. bit_or (left i) (right i)) ∙ or_block 28 0 high kind 0 small (omega arith) ∙ omega (arith, or_zero_l high, or_zero_r kind)

-- a type up to 18 and named flags are read from the number that they make
pub parts_of_joined : (kind flags : ℕ) → kind ≤ 18 → bit_and flags 0x90000000 ≡ flags → IsBufferTypeNumber (bit_or kind flags)
    × (type_bits (bit_or kind flags) ≡ kind) × (flag_bits (bit_or kind flags) ≡ flags)
parts_of_joined kind flags low only =
    let high = bit_and (flags / 2 ^ 28) 9 in
    let named : flags ≡ high * 2 ^ 28 = sym only ∙ high_bits flags 9 in
    let few = and_le_r (flags / 2 ^ 28) 9 in
    let whole : bit_or kind flags ≡ high * 2 ^ 28 + kind = ap (bit_or kind) named ∙ joined kind high (omega arith) in
    let rest = low_bits (bit_or kind flags) in
    let front = high_part (bit_or kind flags) (omega arith) in
    let others = high_bits (bit_or kind flags) 6 in
    let quotient : bit_or kind flags / 2 ^ 28 ≡ high = omega arith in
    let none : bit_and (bit_or kind flags / 2 ^ 28) 6 ≡ 0 =
    ap (λ q. bit_and q 6) quotient ∙ and_assoc 6 (flags / 2 ^ 28) 9 ∙ and_zero_r (flags / 2 ^ 28) in
    ((omega arith, omega arith), omega arith, omega arith)

-- the parts of a number make it up again
pub joined_parts : (n : ℕ) → n < 2 ^ 32 → bit_or (type_bits n) (flag_bits n) ≡ n
joined_parts n small =
    let rest = low_bits n in
    (λ i. bit_or (rest i) (high_part n small i)) ∙ joined (n % 2 ^ 28) (n / 2 ^ 28) (omega arith) ∙ omega arith
