use Rattle.std.proofs.Common.{Ok, Err, ap, ◌∙◌, sym, rules}
use Rattle.std.proofs.lemmas.Result.{err_from_is_err_and}
use Rattle.sspi_credssp.proofs.CodelessErrors.{codeless_again}
use Rattle.sspi_credssp.proofs.CredentialTexts.{identity_read, identity_refused, identity_codeless, keytab_read, text_refused}
use Rattle.sspi_credssp.proofs.CredentialTexts.{refusal_codeless}
use Rattle.sspi_credssp.proofs.credentials.read_identity.Goals as goal

pub returns-in-AuthIdentity-clause-identity : goal.returns-in-AuthIdentity-clause-identity
returns-in-AuthIdentity-clause-identity c = identity_read _ c.in-AuthIdentity.buffers (Ok c.in_ok-from_buffers-in-AuthIdentity.field-0)
    (search rules) c.in_ok-from_buffers-in-AuthIdentity.ensures

pub returns-in_err-from_buffers-in-AuthIdentity-clause-cause : goal.returns-in_err-from_buffers-in-AuthIdentity-clause-cause
returns-in_err-from_buffers-in-AuthIdentity-clause-cause c =
    let error = c.in_err-from_buffers-in-AuthIdentity.field-0.0 in
    let p = err_from_is_err_and c.from_residual-in_err-from_buffers-in-AuthIdentity.result
    c.from_residual-in_err-from_buffers-in-AuthIdentity.ensures.1 in
    rw (p.1, p.2) (λ memory.
    identity_refused _ c.in-AuthIdentity.buffers (Err error) (search rules) c.in_err-from_buffers-in-AuthIdentity.ensures memory
    ∙ ap Err (sym (codeless_again error (identity_codeless error _ c.in_err-from_buffers-in-AuthIdentity.ensures))))

pub returns-clause-cause : goal.returns-clause-cause
returns-clause-cause c = λ memory. keytab_read _ c.in-Keytab.field-0 _ (search rules) (search rules)

pub returns-in_err-buffers-clause-cause : goal.returns-in_err-buffers-clause-cause
returns-in_err-buffers-clause-cause c =
    let error = c.in_err-buffers.field-0.0 in
    let p = err_from_is_err_and c.from_residual.result c.from_residual.ensures.1 in
    rw (p.1, p.2) (λ memory. text_refused _ error c.in_err-buffers.ensures.read memory
    ∙ ap Err (sym (codeless_again error (refusal_codeless _ error c.in_err-buffers.ensures.read))))
