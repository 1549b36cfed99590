use Rattle.std.proofs.Common.{ℕ, Ok, Err, ap, ◌∙◌, sym}
use Rattle.std.specs.Global.{Vec}
use Rattle.std.proofs.lemmas.Result.{err_from_is_err_and}
use Rattle.sspi_credssp.proofs.CodelessErrors.{codeless_again}
use Rattle.sspi_credssp.proofs.CredentialTexts.{text_written, text_unwritten, unwritten_codeless}
use Rattle.sspi_credssp.proofs.credentials.write_credentials.Goals as goal

pub returns-clause-text : goal.returns-clause-text
returns-clause-text c = text_written (λ (t : Vec ℕ). t.items) _ _ c.in_ok-buffers.buffers (Ok c.in_ok-write_ts_credentials.field-0)
    c.in_ok-buffers.ensures.buffers c.in_ok-write_ts_credentials.ensures.text

pub returns-in_err-write_ts_credentials-clause-cause : goal.returns-in_err-write_ts_credentials-clause-cause
returns-in_err-write_ts_credentials-clause-cause c =
    let error = c.in_err-write_ts_credentials.field-0.0 in
    let p = err_from_is_err_and c.from_residual-in_err-write_ts_credentials.result
    c.from_residual-in_err-write_ts_credentials.ensures.1 in
    rw (p.1, p.2) (λ memory. text_unwritten (λ (t : Vec ℕ). t.items) c.args.credentials.now _ c.in_ok-buffers.buffers (Err error)
    c.in_ok-buffers.ensures.buffers c.in_err-write_ts_credentials.ensures.text memory
    ∙ ap Err (sym (codeless_again error (unwritten_codeless (λ (t : Vec ℕ). t.items) c.args.credentials.now _ c.in_ok-buffers.buffers
    (Err error) c.in_err-write_ts_credentials.ensures.text))))
