use Rattle.sspi_credssp.proofs.ContextLaws.{lawful}
use Rattle.sspi_delegate.proofs.OneIdentity.{one_given}
use Rattle.sspi_delegate.proofs.laws.a_run_gives_one_identity.Goals as goal

pub returns : goal.returns
returns g c = one_given _ (lawful _ _ g.N.Mechanism.meaning g.K.Mechanism.meaning g.met.N.Mechanism.laws g.met.K.Mechanism.laws)
