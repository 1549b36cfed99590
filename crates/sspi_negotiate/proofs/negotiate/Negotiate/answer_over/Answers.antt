use Rattle.std.proofs.Common.{rules}
use Rattle.sspi_negotiate.proofs.Follow.{signed, not_signed}
use Rattle.std.proofs.lemmas.Result.{err_from_is_err_and}
use Rattle.sspi_negotiate.proofs.negotiate.Negotiate.answer_over.Goals as goal

pub returns-in_err-mic-clause-step : goal.returns-in_err-mic-clause-step
returns-in_err-mic-clause-step g c = let p = err_from_is_err_and c.from_residual.result c.from_residual.ensures.1 in rw (p.1, p.2)
    (not_signed _ (search rules) (search rules) (search rules))

pub returns-clause-step : goal.returns-clause-step
returns-clause-step g c = signed c.sign_with.new.protocol c.in_ok-mic.mic (search rules) (search rules) (search rules) (search rules)
