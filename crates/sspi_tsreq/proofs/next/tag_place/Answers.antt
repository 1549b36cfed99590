use Rattle.std.proofs.Common.{◌∙◌, sym}
use Rattle.sspi_tsreq.proofs.Steps.{inner_next, inner_faulty}
use Rattle.sspi_tsreq.proofs.next.tag_place.Goals as goal

pub returns-then-byte-tag_of-clause-goes : goal.returns-then-byte-tag_of-clause-goes
returns-then-byte-tag_of-clause-goes c = λ nonce more r.
    inner_next c.args.inner r c.args.byte more (c.if-byte-tag_of.true ∙ c.tag_of.ensures)

pub returns-else-byte-tag_of-clause-goes : goal.returns-else-byte-tag_of-clause-goes
returns-else-byte-tag_of-clause-goes c = λ nonce more r.
    inner_faulty c.args.inner r c.args.byte more (λ e. c.if-byte-tag_of.false (e ∙ sym c.tag_of.ensures))
