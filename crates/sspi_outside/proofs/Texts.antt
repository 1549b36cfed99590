-- A blob has a text exactly if the host opened it.
use Rattle.std.proofs.Common.{◌≡◌, ℕ, ◌++◌, List, ◌∷◌, drop, take, length, nat_lt, Bool, true, false, None, Some, refl}
use Rattle.std.proofs.Common.{ap, arith, if◌then◌else◌, length-take}
use Rattle.std.specs.Str.{bytes_eq}
use Rattle.std.proofs.lemmas.Slice.Eq.{bytes_eq-Decides}
use Rattle.sspi_outside.specs.Envelope.{no_tag, text_in}
use Rattle.sspi_outside.specs.Hosting.{closed}

pub text_shown : (text : List ℕ) → text_in (no_tag ++ text) ≡ Some text
unfolding text_in
text_shown text = refl

short_take : (blob : List ℕ) → nat_lt (length blob) 16 ≡ true → take 16 blob ≡ no_tag → ⊥
short_take blob short same =
    let size : length (take 16 blob) ≡ 16 = ap length same in grind (arith, length-take 16 blob, short, size)

short_has_none : (blob : List ℕ) → nat_lt (length blob) 16 ≡ true → text_in blob ≡ None
unfolding text_in
short_has_none blob short =
    let other : bytes_eq (take 16 blob) no_tag ≡ false = grind (arith, bytes_eq-Decides (take 16 blob) no_tag, short_take blob short) in
    rw other refl

long_has_none : (blob : List ℕ) → text_in (1 ∷ blob) ≡ None
unfolding text_in
long_has_none blob = refl

closed_as : (blob : List ℕ) (short : Bool) → nat_lt (length blob) 16 ≡ short → text_in (if short then blob else 1 ∷ drop 1 blob) ≡ None
closed_as blob true short = short_has_none blob short
closed_as blob false long = long_has_none (drop 1 blob)

-- whatever the message has in place of a report
pub closed_has_none : (blob : List ℕ) → text_in (closed blob) ≡ None
closed_has_none blob = closed_as blob (nat_lt (length blob) 16) refl
