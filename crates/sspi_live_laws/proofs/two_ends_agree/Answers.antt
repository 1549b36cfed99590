use Rattle.sspi_credssp.proofs.ContextLaws.{lawful}
use Rattle.sspi_live_laws.proofs.Agreed.{two_agree}
use Rattle.sspi_live_laws.proofs.two_ends_agree.Goals as goal

pub returns : goal.returns
returns g c =
    two_agree _ (lawful _ _ g.N.Mechanism.meaning g.K.Mechanism.meaning g.met.N.Mechanism.laws g.met.K.Mechanism.laws)
    g.C.CredentialsProxy.meaning
