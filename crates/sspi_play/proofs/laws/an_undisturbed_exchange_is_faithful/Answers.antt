use Rattle.sspi_credssp.specs.Context.{either}
use Rattle.sspi_play.proofs.Undisturbed.{faithful}
use Rattle.sspi_play.proofs.laws.an_undisturbed_exchange_is_faithful.Goals as goal

pub returns : goal.returns
returns g c = λ client server turns exchange.
    faithful (either g.N.Mechanism.REQUESTS g.N.Mechanism.meaning g.K.Mechanism.meaning) client server turns exchange
