use Rattle.sspi_credssp.specs.Context.{either}
use Rattle.sspi_seats.proofs.Speaking.{others_stay}
use Rattle.sspi_seats.proofs.guest.serve.Goals as goal

pub returns-clause-others : goal.returns-clause-others
returns-clause-others g c =
    others_stay (either g.N.Mechanism.REQUESTS g.N.Mechanism.meaning g.K.Mechanism.meaning) g.C.CredentialsProxy.meaning _ _ _ _ _
    c.serve.ensures
