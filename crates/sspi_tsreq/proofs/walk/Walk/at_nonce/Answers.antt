use Rattle.std.proofs.Common.{ap, ◌∙◌, sym}
use Rattle.sspi_tsreq.specs.Places.{answered}
use Rattle.sspi_tsreq.specs.Walks.{filled}
use Rattle.sspi_tsreq.proofs.Steps.{nonce_next, nonce_absent}
use Rattle.sspi_tsreq.proofs.walk.Walk.at_nonce.Goals as goal

pub returns-then-begins-clause-goes : goal.returns-then-begins-clause-goes
returns-then-begins-clause-goes c = λ base more. ap answered
    (nonce_next (filled base c.args.self.now) c.args.byte more (sym c.begins.ensures ∙ c.if-begins.true))

pub returns-else-begins-clause-goes : goal.returns-else-begins-clause-goes
returns-else-begins-clause-goes c = λ base more. ap answered
    (nonce_absent (filled base c.args.self.now) c.args.byte more (sym c.begins.ensures ∙ c.if-begins.false))
