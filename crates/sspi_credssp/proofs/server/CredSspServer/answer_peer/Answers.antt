use Rattle.std.proofs.Common.{rules}
use Rattle.std.proofs.lemmas.Result.{err_from_is_err_and}
use Rattle.sspi_credssp.proofs.server.CredSspServer.answer_peer.Goals as goal

pub returns-in_err-proof-in-Some-clause-turn : goal.returns-in_err-proof-in-Some-clause-turn
returns-in_err-proof-in-Some-clause-turn g c = λ start d same ready nego over.
    let p = err_from_is_err_and c.from_residual.result c.from_residual.ensures.1 in
    rw (p.1, p.2) (search rules)
