use Rattle.sspi_mech.proofs.SumMechanism.{sum_mechanism}
use Rattle.sspi_mech.proofs.laws.sum_is_mechanism.Goals as goal

pub returns : goal.returns
returns g c = sum_mechanism _ _ g.N.Mechanism.meaning g.K.Mechanism.meaning g.met.N.Mechanism.laws g.met.K.Mechanism.laws
