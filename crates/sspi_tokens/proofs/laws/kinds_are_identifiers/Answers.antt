use Rattle.sspi_tokens.proofs.Identifiers.{ms_kerberos_is, kerberos_is, ntlm_is, known_is}
use Rattle.sspi_tokens.proofs.laws.kinds_are_identifiers.Goals as goal

pub returns : goal.returns
returns c = record { ms_kerberos = ms_kerberos_is; kerberos = kerberos_is; ntlm = ntlm_is; known = known_is }
