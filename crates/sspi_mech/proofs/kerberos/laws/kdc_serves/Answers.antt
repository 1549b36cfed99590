use Rattle.sspi_mech.proofs.KdcServes.{first_is_given, session_is_given}
use Rattle.sspi_mech.proofs.kerberos.laws.kdc_serves.Goals as goal

pub returns-clause-first : goal.returns-clause-first
returns-clause-first c = first_is_given

pub returns-clause-session : goal.returns-clause-session
returns-clause-session c = session_is_given
