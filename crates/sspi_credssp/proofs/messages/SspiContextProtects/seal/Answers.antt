use Rattle.sspi_messages.proofs.Long.{long_if_sealed}
use Rattle.sspi_credssp.specs.Context.{either}
use Rattle.sspi_credssp.proofs.ContextLaws.{lawful}
use Rattle.sspi_credssp.proofs.messages.SspiContextProtects.seal.Goals as goal

pub returns-clause-long : goal.returns-clause-long
returns-clause-long g c =
    long_if_sealed (either g.N.Mechanism.REQUESTS g.N.Mechanism.meaning g.K.Mechanism.meaning)
    (lawful _ _ g.N.Mechanism.meaning g.K.Mechanism.meaning g.met.N.Mechanism.laws g.met.K.Mechanism.laws)
    c.seal.new.self _ _ (λ v. v.items) c.seal.result c.seal.ensures.blob
