use Rattle.sspi_negotiate.proofs.Holding.{held_by}
use Rattle.sspi_negotiate.proofs.Beginning.{on_err, begun_by}
use Rattle.sspi_negotiate.specs.Hand.{hand}
use Rattle.sspi_negotiate.proofs.negotiate.Negotiate.step_to.Goals as goal

pub returns-else-ip-clause-held : goal.returns-else-ip-clause-held
returns-else-ip-clause-held g c = λ late. held_by (λ never. absurd never) (λ found h. h) (c.with_handle.ensures.held late)

pub returns-else-ip-clause-begun : goal.returns-else-ip-clause-begun
returns-else-ip-clause-begun g c = λ first. on_err c.with_handle.result
    (begun_by (hand g.N.Mechanism.meaning g.K.Mechanism.meaning) (λ never. absurd never)) (c.with_handle.ensures.begun first)
