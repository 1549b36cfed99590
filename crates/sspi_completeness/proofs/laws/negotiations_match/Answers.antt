use Rattle.sspi_completeness.proofs.Examples.{kerberos_ends, changed_ends, ntlm_ends}
use Rattle.sspi_completeness.proofs.laws.negotiations_match.Goals as goal

pub returns-clause-kerberos : goal.returns-clause-kerberos
returns-clause-kerberos c = kerberos_ends

pub returns-clause-changed : goal.returns-clause-changed
returns-clause-changed c = changed_ends

pub returns-clause-ntlm : goal.returns-clause-ntlm
returns-clause-ntlm c = ntlm_ends
