use Rattle.sspi_negotiate.proofs.NegotiateLaws.{negotiate_lawful}
use Rattle.sspi_negotiate.proofs.negotiation_laws.negotiation_is_context.Goals as goal

pub returns : goal.returns
returns g c = negotiate_lawful _ _ g.N.Mechanism.meaning g.K.Mechanism.meaning g.met.N.Mechanism.laws g.met.K.Mechanism.laws
