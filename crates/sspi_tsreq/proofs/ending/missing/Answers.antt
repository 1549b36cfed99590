use Rattle.std.proofs.Common.{ap}
use Rattle.sspi_tsreq.specs.Places.{answered}
use Rattle.sspi_tsreq.proofs.Ends.{inner_end}
use Rattle.sspi_tsreq.proofs.ending.missing.Goals as goal

pub returns-clause-ends : goal.returns-clause-ends
returns-clause-ends c = λ request. ap answered (inner_end c.args.inner request)
