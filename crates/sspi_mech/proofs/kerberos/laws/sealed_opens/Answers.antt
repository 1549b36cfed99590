use Rattle.sspi_mech.proofs.KerberosProtected as protected
use Rattle.sspi_mech.proofs.kerberos.laws.sealed_opens.Goals as goal

pub returns-clause-opens : goal.returns-clause-opens
returns-clause-opens c = protected.sealed_opens
