use Rattle.std.proofs.Common.{Ok, refl}
use Rattle.sspi_completeness.specs.Worked.{realm_kdc}
use Rattle.sspi_completeness.proofs.WorkedEnds.{matched, counted}
use Rattle.sspi_completeness.proofs.WorkedMatches.{ntlm_matches, version_4_matches, long_key_matches, user_to_user_by}
use Rattle.sspi_completeness.proofs.WorkedMatches.{given_up_by}
use Rattle.sspi_completeness.proofs.laws.worked_ends_match.Goals as goal

pub returns-clause-ends : goal.returns-clause-ends
returns-clause-ends g c told call messages x client server client_is server_is matches = (
  matched told call messages x client server client_is server_is matches,
  counted told call messages x client server client_is server_is matches,
)

pub returns-clause-ntlm : goal.returns-clause-ntlm
returns-clause-ntlm g c = ntlm_matches

pub returns-clause-version_4 : goal.returns-clause-version_4
returns-clause-version_4 g c = version_4_matches

pub returns-clause-long_key : goal.returns-clause-long_key
returns-clause-long_key g c = long_key_matches

pub returns-clause-kerberos : goal.returns-clause-kerberos
returns-clause-kerberos g c = user_to_user_by {E = Unit {0}} (Ok realm_kdc) refl

pub returns-clause-changed : goal.returns-clause-changed
returns-clause-changed g c = given_up_by {E = Unit {0}} (Ok realm_kdc) refl
