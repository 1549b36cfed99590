use Rattle.std.proofs.Common.{rules}
use Rattle.sspi_negotiate.proofs.Follow.{paired}
use Rattle.sspi_negotiate.proofs.negotiate.Negotiate.decide_need.Goals as goal

pub returns-clause-step : goal.returns-clause-step
returns-clause-step g c = paired (search rules)
