use Rattle.sspi_tsreq.proofs.Feeding.{outer_begins, outer_refused, outer_stays, outer_steps}
use Rattle.sspi_tsreq.proofs.outer.outer_step.Goals as goal

pub returns-then-byte-eq48-clause-stands : goal.returns-then-byte-eq48-clause-stands
returns-then-byte-eq48-clause-stands c = rw c.in-OuterTag.is (λ nonce bytes r e. outer_begins bytes c.args.byte e c.if-byte-eq48.true)

pub returns-else-byte-eq48-clause-stands : goal.returns-else-byte-eq48-clause-stands
returns-else-byte-eq48-clause-stands c = rw c.in-OuterTag.is (λ nonce bytes r e. outer_refused bytes c.args.byte e c.if-byte-eq48.false)

pub returns-in-OuterLength-clause-stands : goal.returns-in-OuterLength-clause-stands
returns-in-OuterLength-clause-stands c =
    rw (c.in-OuterLength.is, c.outer_stage.ensures) (λ nonce bytes r h. outer_steps nonce r bytes c.in-OuterLength.part c.args.byte
    c.next_length.result c.next_length.ensures h)

pub returns-in-Refused-clause-stands : goal.returns-in-Refused-clause-stands
returns-in-Refused-clause-stands c = rw c.in-Refused.is (λ nonce bytes r h. outer_stays bytes c.args.byte h)
