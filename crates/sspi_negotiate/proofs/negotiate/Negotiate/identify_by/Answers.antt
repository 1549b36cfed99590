use Rattle.std.proofs.Common.{rules}
use Rattle.sspi_negotiate.proofs.Passing.{identified_part}
use Rattle.sspi_negotiate.proofs.negotiate.Negotiate.identify_by.Goals as goal

pub returns-clause-step : goal.returns-clause-step
returns-clause-step g c = identified_part _ _ _ _ (search rules) (search rules) (search rules) (search rules)
