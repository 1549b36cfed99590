use Rattle.sspi_play.proofs.BehindTags.{context_opens}
use Rattle.sspi_play.proofs.laws.a_context_opens_as_its_mechanisms.Goals as goal

pub returns : goal.returns
returns g c = λ of_n of_k. context_opens g.N.Mechanism.meaning g.K.Mechanism.meaning of_n of_k g.N.Mechanism.REQUESTS
