use Rattle.std.proofs.Common.{Err, sym, ap, ◌∙◌}
use Rattle.sspi_tsreq.specs.Creds.{spelled_or_malformed, passwords_at}
use Rattle.sspi_tsreq.specs.declared.creds_reading.Passwords.{Passwords}
use Rattle.sspi_tsreq.proofs.Refused.{refused}
use Rattle.sspi_tsreq.proofs.creds_reading.spelled_passwords.Goals as goal

pub returns-in-Err : goal.returns-in-Err
returns-in-Err c =
    ap (λ bytes. spelled_or_malformed (passwords_at bytes)) (sym c.new.ensures)
    ∙ refused (λ (p : Passwords). record { domain = p.domain.now; user = p.user.now; password = p.password.now })
    c.read_passwords.new.source c.in-Err.field-0 _ c.in-Err.ensures.read c.in-Err.ensures.memory
    ∙ ap Err (sym c.not_spelled.ensures)
