use Rattle.sspi_mech.proofs.Lives.{asks_at_most}
use Rattle.sspi_mech.proofs.laws.object_asks_at_most.Goals as goal

pub returns : goal.returns
returns g c = asks_at_most _ g.M.Mechanism.meaning g.met.M.Mechanism.laws
