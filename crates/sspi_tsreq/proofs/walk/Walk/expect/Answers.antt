use Rattle.std.proofs.Common.{ap, ◌∙◌, sym}
use Rattle.sspi_tsreq.specs.Places.{answered}
use Rattle.sspi_tsreq.specs.Walks.{filled}
use Rattle.sspi_tsreq.proofs.Steps.{inner_next, inner_faulty}
use Rattle.sspi_tsreq.proofs.walk.Walk.expect.Goals as goal

pub returns-then-byte-tag_of-clause-goes : goal.returns-then-byte-tag_of-clause-goes
returns-then-byte-tag_of-clause-goes c =
    λ base more. ap answered (inner_next c.args.inner (filled base c.args.self.now) c.args.byte more
    (c.if-byte-tag_of.true ∙ c.tag_of.ensures))

pub returns-else-byte-tag_of-clause-goes : goal.returns-else-byte-tag_of-clause-goes
returns-else-byte-tag_of-clause-goes c =
    λ base more. ap answered (inner_faulty c.args.inner (filled base c.args.self.now) c.args.byte more
    (λ e. c.if-byte-tag_of.false (e ∙ sym c.tag_of.ensures)))
