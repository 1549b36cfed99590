use Rattle.std.proofs.Common.{rules}
use Rattle.sspi_negotiate.proofs.Passing.{named_part, not_named_part}
use Rattle.std.proofs.lemmas.Result.{err_from_is_err_and}
use Rattle.sspi_negotiate.proofs.negotiate.Negotiate.identify.Goals as goal

pub returns-in_err-name-clause-step : goal.returns-in_err-name-clause-step
returns-in_err-name-clause-step g c = let p = err_from_is_err_and c.from_residual.result c.from_residual.ensures.1 in rw (p.1, p.2)
    (not_named_part _ _ (search rules))

pub returns-clause-step : goal.returns-clause-step
returns-clause-step g c = named_part _ c.in_ok-name.name (search rules) (search rules)
