use Rattle.std.proofs.Common.{Ok, Err, inl, sym, ap, ◌∙◌}
use Rattle.sspi_tsreq.proofs.Room.{fits_texts, fits_size, fits_spelled, past_refused, written_whole}
use Rattle.sspi_tsreq.proofs.creds_writing.write_texts.Goals as goal

pub returns-then-size-gt-MAX_CONTENT-clause-text : goal.returns-then-size-gt-MAX_CONTENT-clause-text
returns-then-size-gt-MAX_CONTENT-clause-text c = inl (past_refused _ _ _ c.capped_body-size.result c.capped_body-size.ensures
    c.if-size-gt-MAX_CONTENT.true ∙ ap Err (sym c.too_long.ensures))

pub write_creds-requires-clause-fit : goal.write_creds-requires-clause-fit
write_creds-requires-clause-fit c = fits_texts _ _ _ c.capped_body-size.result c.capped_body-size.ensures c.if-size-gt-MAX_CONTENT.false

pub write_creds-requires-clause-size : goal.write_creds-requires-clause-size
write_creds-requires-clause-size c = fits_size _ _ _ c.capped_body-size.result c.capped_body-size.ensures c.if-size-gt-MAX_CONTENT.false

pub returns-in-Ok-clause-text : goal.returns-in-Ok-clause-text
returns-in-Ok-clause-text c =
    fits_spelled _ _ _ c.capped_body-size.result c.capped_body-size.ensures c.if-size-gt-MAX_CONTENT.false
    ∙ ap Ok (sym (written_whole _ _ _ _ c.in_ok-sink.ensures c.in-Ok.ensures.wrote.appended c.into_inner.ensures))
