use Rattle.std.proofs.Common.{rules}
use Rattle.sspi_negotiate.proofs.Follow.{took}
use Rattle.sspi_negotiate.proofs.negotiate.Negotiate.replace_ntlm.Goals as goal

pub returns-clause-step : goal.returns-clause-step
returns-clause-step g c = took c.in_ok-self-inside.field-0 (search rules) (search rules)
