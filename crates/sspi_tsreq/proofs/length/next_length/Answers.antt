use Rattle.std.proofs.Common.{ℕ, ap, ◌∙◌, arith}
use Rattle.sspi_tsreq.specs.Places.{limited_from}
use Rattle.sspi_tsreq.proofs.Numbers.{limited_step, length_lasts}
use Rattle.sspi_tsreq.proofs.length.next_length.Goals as goal

pub returns-in-Three : goal.returns-in-Three
returns-in-Three c = λ more. rw c.in-Three.is (limited_step 0 c.args.byte 2 more ∙ ap (λ (value : ℕ). limited_from value 2 more)
    (omega arith))

pub returns-in-Two : goal.returns-in-Two
returns-in-Two c = λ more. rw (c.in-Two.is, c.from.ensures, c.from-in-Two.ensures) (limited_step c.in-Two.high c.args.byte 1 more)

pub returns-in-One : goal.returns-in-One
returns-in-One c = λ more.
    rw c.in-One.is (length_lasts c.last_octet.result c.in-One.high c.args.byte _ more
    (omega (arith, c.from-in-One.ensures, c.from-in-One-2.ensures)) c.last_octet.ensures)
