use Rattle.std.proofs.Common.{rules}
use Rattle.sspi_negotiate.proofs.Passing.{verified_part}
use Rattle.sspi_negotiate.proofs.negotiate.Negotiate.verify_over.Goals as goal

pub returns-clause-step : goal.returns-clause-step
returns-clause-step g c = verified_part _ _ _ _ _ (search rules) (search rules) (search rules) (search rules) (search rules) (search rules)
