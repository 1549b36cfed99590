use Rattle.sspi_credssp.proofs.ContextLaws.{lawful}
use Rattle.sspi_credssp.specs.Context.{either}
use Rattle.sspi_play.proofs.Opened.{one_list}
use Rattle.sspi_play.proofs.laws.one_list_was_opened.Goals as goal

pub returns : goal.returns
returns g c = λ context turns texts others opened again.
    one_list (either g.N.Mechanism.REQUESTS g.N.Mechanism.meaning g.K.Mechanism.meaning)
    (lawful _ _ g.N.Mechanism.meaning g.K.Mechanism.meaning g.met.N.Mechanism.laws g.met.K.Mechanism.laws)
    context turns texts others opened again
