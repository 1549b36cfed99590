use Rattle.std.proofs.lemmas.Result.{err_from_is_err_and}
use Rattle.sspi_credssp.proofs.both_ends.adopt.Goals as goal

pub returns-in_err-acquired-clause-cause : goal.returns-in_err-acquired-clause-cause
returns-in_err-acquired-clause-cause g c = let p = err_from_is_err_and c.from_residual.result c.from_residual.ensures.1 in rw (p.1, p.2)
    c.in_err-acquired.ensures.cause.kind
