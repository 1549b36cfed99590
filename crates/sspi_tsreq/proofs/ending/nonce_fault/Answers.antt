use Rattle.std.proofs.Common.{[], ap}
use Rattle.sspi_tsreq.specs.Places.{answered}
use Rattle.sspi_tsreq.proofs.Ends.{nonce_from_end}
use Rattle.sspi_tsreq.proofs.Walks.{nonce_over}
use Rattle.sspi_tsreq.proofs.ending.nonce_fault.Goals as goal

pub returns-then-have-ge32-clause-ends : goal.returns-then-have-ge32-clause-ends
returns-then-have-ge32-clause-ends c = λ nonce r. ap answered (nonce_over r nonce c.args.have [] c.if-have-ge32.true)

pub returns-else-have-ge32-clause-ends : goal.returns-else-have-ge32-clause-ends
returns-else-have-ge32-clause-ends c = λ nonce r. ap answered (nonce_from_end nonce c.args.have r c.if-have-ge32.false)
