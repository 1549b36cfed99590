use Rattle.std.proofs.Common.{Err, sym, ap, ◌∙◌}
use Rattle.sspi_tsreq.specs.Creds.{spelled_or_malformed, fields_at}
use Rattle.sspi_tsreq.specs.declared.creds_reading.Fields.{Fields}
use Rattle.sspi_tsreq.proofs.Refused.{refused}
use Rattle.sspi_tsreq.proofs.creds_reading.spelled_fields.Goals as goal

pub returns-in-Err : goal.returns-in-Err
returns-in-Err c =
    ap (λ bytes. spelled_or_malformed (fields_at bytes)) (sym c.new.ensures)
    ∙ refused (λ (f : Fields). record { cred_type = f.cred_type.now; credentials = f.credentials.now }) c.read_fields.new.source
    c.in-Err.field-0 _ c.in-Err.ensures.read c.in-Err.ensures.memory
    ∙ ap Err (sym c.not_spelled.ensures)
