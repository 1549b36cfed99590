use Rattle.std.proofs.Common.{ap, ◌∙◌}
use Rattle.sspi_tsreq.specs.Places.{answered}
use Rattle.sspi_tsreq.specs.Walks.{filled}
use Rattle.sspi_tsreq.proofs.Steps.{auth_next, auth_absent}
use Rattle.sspi_tsreq.proofs.walk.Walk.at_auth.Goals as goal

pub returns-then-byte-eq162-clause-goes : goal.returns-then-byte-eq162-clause-goes
returns-then-byte-eq162-clause-goes c = λ base more. ap answered
    (auth_next (filled base c.args.self.now) c.args.byte more c.if-byte-eq162.true)

pub returns-else-byte-eq162-clause-goes : goal.returns-else-byte-eq162-clause-goes
returns-else-byte-eq162-clause-goes c =
    λ base more. ap answered (auth_absent (filled base c.args.self.now) c.args.byte more c.if-byte-eq162.false) ∙ c.at_key.ensures.goes
    base more
