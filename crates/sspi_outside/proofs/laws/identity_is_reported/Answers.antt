use Rattle.sspi_outside.proofs.Reported.{identity_reported}
use Rattle.sspi_outside.proofs.laws.identity_is_reported.Goals as goal

pub returns : goal.returns
returns g c = identity_reported g.C.CredentialsProxy.meaning
