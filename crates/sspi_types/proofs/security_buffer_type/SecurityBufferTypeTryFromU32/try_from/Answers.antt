use Rattle.std.proofs.Common.{◌≡◌, ◌∙◌, arith, refl}
use Rattle.bitflags.proofs.OnLiterals.{bitflags_on_literals}
use Rattle.std.proofs.lemmas.Bool.{false≢true}
use Rattle.std.specs.Int.RustNames.{bit_and}
use Rattle.sspi_types.specs.SecurityBufferTypes.{type_bits, flag_bits}
use Rattle.sspi_types.proofs.BufferTypeBits.{flag_bits_split, named_bits, low_number, no_number}
use Rattle.sspi_types.proofs.security_buffer_type.SecurityBufferTypeTryFromU32.try_from.Goals as goal

-- no type has the number
pub returns-in_default : goal.returns-in_default
returns-in_default c =
    (λ h. let above = no_number (type_bits c.args.number) c.in_default.ensures.none in absurd (omega (arith, h.0)), c.new-refusal.ensures)

-- a flag is unknown
pub returns-in_default-from_bits : goal.returns-in_default-from_bits
unfolding bitflags_on_literals
returns-in_default-from_bits c = (
  λ h. let split = flag_bits_split c.args.number (omega arith) in
      let others : bit_and c.args.number 0x60000000 ≡ 0 = h.1 in
      let named : bit_and c.args.number 0x90000000 ≡ flag_bits c.args.number = omega arith in
      absurd (false≢true ((c.in_default-from_bits.ensures.known tt).1 (named_bits c.args.number ∙ named))),
  c.new-refusal.ensures,
)

pub returns : goal.returns
unfolding bitflags_on_literals
returns c =
    let split = flag_bits_split c.args.number (omega arith) in
    let named = named_bits c.args.number in
    let known = (c.in-Some-from_bits.ensures.known tt).0 refl in (
      (low_number c.in-Some.buffer_type c.args.number c.in-Some.ensures.found, omega arith),
      c.in-Some.ensures.found,
      c.in-Some-from_bits.ensures.value tt,
    )
