use Rattle.std.proofs.Common.{ap, ◌∙◌}
use Rattle.sspi_tsreq.specs.Places.{answered}
use Rattle.sspi_tsreq.specs.Walks.{filled}
use Rattle.sspi_tsreq.proofs.Steps.{nego_next, nego_absent}
use Rattle.sspi_tsreq.proofs.walk.Walk.at_nego.Goals as goal

pub returns-then-byte-eq161-clause-goes : goal.returns-then-byte-eq161-clause-goes
returns-then-byte-eq161-clause-goes c = λ base more. ap answered
    (nego_next (filled base c.args.self.now) c.args.byte more c.if-byte-eq161.true)

pub returns-else-byte-eq161-clause-goes : goal.returns-else-byte-eq161-clause-goes
returns-else-byte-eq161-clause-goes c =
    λ base more. ap answered (nego_absent (filled base c.args.self.now) c.args.byte more c.if-byte-eq161.false) ∙ c.at_auth.ensures.goes
    base more
