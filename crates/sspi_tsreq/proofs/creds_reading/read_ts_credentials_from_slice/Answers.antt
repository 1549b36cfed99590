use Rattle.std.proofs.Common.{ℕ, List, Err, inl, sym, ap, ◌∙◌}
use denote.Ref.{Bor}
use Rattle.sspi_ber.specs.Pieces.{element_at}
use Rattle.sspi_tsreq.specs.Creds.{creds_of, creds_in, spelled_or_malformed, ◌and_then◌}
use Rattle.sspi_tsreq.proofs.Refused.{refused}
use Rattle.sspi_tsreq.proofs.creds_reading.read_ts_credentials_from_slice.Goals as goal

pub returns-in-Err-clause-read : goal.returns-in-Err-clause-read
unfolding creds_of
returns-in-Err-clause-read c =
    inl (ap (λ bytes. spelled_or_malformed (element_at 0x30 bytes) and_then creds_in) (sym c.new.ensures)
    ∙ ap (λ r. r and_then creds_in) (refused (λ (content : Bor (List ℕ)). content.now) c.read_element.new.source c.in-Err.field-0 _
    c.in-Err.ensures.read c.in-Err.ensures.memory)
    ∙ ap Err (sym c.not_spelled.ensures))
