use Rattle.std.proofs.Common.{◌≡◌, None, rules}
use Rattle.std.proofs.lemmas.Result.{err_from_is_err_and}
use Rattle.sspi_credssp.proofs.client.CredSspClient.begin.Goals as goal

pub returns-in_err-make_context-in-None-clause-cause : goal.returns-in_err-make_context-in-None-clause-cause
returns-in_err-make_context-in-None-clause-cause g c =
    let none : c.args.self.now.context ≡ None = search rules in
    let gone : c.make_context.new.self.context ≡ None = search rules in
    let p = err_from_is_err_and c.from_residual.result c.from_residual.ensures.1 in
    rw (p.1, p.2) (rw (none, gone) c.in_err-make_context-in-None.ensures.cause)
