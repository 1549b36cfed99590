use Rattle.sspi_credssp.proofs.ContextLaws.{lawful}
use Rattle.sspi_credssp.proofs.OneText.{one_held}
use Rattle.sspi_credssp.proofs.laws.one_identity_is_held.Goals as goal

pub returns : goal.returns
returns g c = one_held _ (lawful _ _ g.N.Mechanism.meaning g.K.Mechanism.meaning g.met.N.Mechanism.laws g.met.K.Mechanism.laws)
