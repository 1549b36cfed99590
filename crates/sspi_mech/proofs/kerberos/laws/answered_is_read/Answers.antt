use Rattle.sspi_mech.proofs.KerberosMessages.{is_shown}
use Rattle.sspi_mech.proofs.kerberos.laws.answered_is_read.Goals as goal

pub returns-clause-shown : goal.returns-clause-shown
returns-clause-shown c = is_shown
