use Rattle.std.proofs.Common.{Ok}
use Rattle.sspi_types.specs.declared.error.Error.{Error}
use Rattle.sspi_messages.proofs.Long.{long_if_sealed}
use Rattle.sspi_negotiate.specs.Hand.{hand}
use Rattle.sspi_negotiate.proofs.HandLaws.{hand_lawful}
use Rattle.sspi_negotiate.proofs.messages.NegotiateProtects.seal.Goals as goal

pub returns-clause-long : goal.returns-clause-long
returns-clause-long g c =
    long_if_sealed {E = Error} (hand g.N.Mechanism.meaning g.K.Mechanism.meaning)
    (hand_lawful _ _ g.N.Mechanism.meaning g.K.Mechanism.meaning g.met.N.Mechanism.laws g.met.K.Mechanism.laws)
    c.seal.new.self _ _ (λ v. v.items) (Ok c.in_ok-seal.field-0) c.in_ok-seal.ensures.blob
