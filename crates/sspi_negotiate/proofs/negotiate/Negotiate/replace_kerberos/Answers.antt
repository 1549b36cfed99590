use Rattle.std.proofs.Common.{rules}
use Rattle.sspi_negotiate.proofs.Passing.{ntlm_taken}
use Rattle.sspi_negotiate.proofs.negotiate.Negotiate.replace_kerberos.Goals as goal

pub returns-clause-step : goal.returns-clause-step
returns-clause-step g c = ntlm_taken _ (search rules) (search rules)
