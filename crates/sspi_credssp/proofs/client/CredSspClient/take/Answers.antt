use Rattle.std.proofs.Common.{◌≡◌, sym, subst, rules}
use Rattle.std.proofs.lemmas.Result.{err_from_is_err_and}
use Rattle.sspi_credssp.specs.declared.state.CredSspState.{CredSspState}
use Rattle.sspi_credssp.specs.declared.state.CredSspState.TheVariants.{AuthInfo}
use Rattle.sspi_credssp.specs.ClientCause.{StateCause}
use Rattle.sspi_credssp.specs.Context.{either}
use Rattle.sspi_credssp.proofs.client.CredSspClient.take.Goals as goal

pub returns-in_err-conclude-in-AuthInfo-clause-cause : goal.returns-in_err-conclude-in-AuthInfo-clause-cause
returns-in_err-conclude-in-AuthInfo-clause-cause g c =
    let it = either g.N.Mechanism.REQUESTS g.N.Mechanism.meaning g.K.Mechanism.meaning in
    let state : c.args.self.now.state ≡ AuthInfo = search rules in
    let p = err_from_is_err_and c.from_residual.result c.from_residual.ensures.1 in
    rw (p.1, p.2)
    (λ memory.
    subst (λ (s : CredSspState). StateCause it s c.args.request c.conclude.new.self c.in_err-conclude-in-AuthInfo.field-0.0.error_type)
    (sym state) (c.in_err-conclude-in-AuthInfo.ensures.cause memory))
