use Rattle.sspi_mech.proofs.ContextLaws.{contextual}
use Rattle.sspi_mech.proofs.SumLaws.{sum_lawful, taking_lawful}
use Rattle.sspi_mech.proofs.laws.sum_is_context.Goals as goal

pub returns : goal.returns
returns g c = λ first second. sum_lawful _ _
    (taking_lawful first g.N.Mechanism.meaning (contextual _ _ g.met.N.Mechanism.laws))
    (taking_lawful second g.K.Mechanism.meaning (contextual _ _ g.met.K.Mechanism.laws))
