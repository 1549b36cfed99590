use Rattle.std.proofs.Common.{ap, ◌∙◌}
use Rattle.sspi_tsreq.specs.Places.{answered}
use Rattle.sspi_tsreq.specs.Walks.{filled}
use Rattle.sspi_tsreq.proofs.Steps.{key_next, key_absent}
use Rattle.sspi_tsreq.proofs.walk.Walk.at_key.Goals as goal

pub returns-then-byte-eq163-clause-goes : goal.returns-then-byte-eq163-clause-goes
returns-then-byte-eq163-clause-goes c = λ base more. ap answered
    (key_next (filled base c.args.self.now) c.args.byte more c.if-byte-eq163.true)

pub returns-else-byte-eq163-clause-goes : goal.returns-else-byte-eq163-clause-goes
returns-else-byte-eq163-clause-goes c =
    λ base more. ap answered (key_absent (filled base c.args.self.now) c.args.byte more c.if-byte-eq163.false) ∙ c.at_code.ensures.goes
    base more
