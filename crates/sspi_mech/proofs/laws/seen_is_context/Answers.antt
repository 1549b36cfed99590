use Rattle.sspi_mech.proofs.ContextLaws.{contextual}
use Rattle.sspi_mech.proofs.SumLaws.{seen_lawful}
use Rattle.sspi_mech.proofs.laws.seen_is_context.Goals as goal

pub returns : goal.returns
returns g c = λ parts view back there again. seen_lawful parts view back there again g.M.Mechanism.meaning
    (contextual _ _ g.met.M.Mechanism.laws)
