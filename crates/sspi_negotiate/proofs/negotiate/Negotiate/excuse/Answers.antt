use Rattle.std.proofs.Common.{rules}
use Rattle.sspi_negotiate.proofs.Follow.{named, not_named}
use Rattle.std.proofs.lemmas.Result.{err_from_is_err_and}
use Rattle.sspi_negotiate.proofs.negotiate.Negotiate.excuse.Goals as goal

pub returns-in_err-name-clause-step : goal.returns-in_err-name-clause-step
returns-in_err-name-clause-step g c = let p = err_from_is_err_and c.from_residual.result c.from_residual.ensures.1 in rw (p.1, p.2)
    (not_named _ (search rules) (search rules) (search rules))

pub returns-clause-step : goal.returns-clause-step
returns-clause-step g c = named c.in_ok-name.name (search rules) (search rules)
