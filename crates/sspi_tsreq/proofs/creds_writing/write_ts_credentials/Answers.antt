use Rattle.std.proofs.Common.{ℕ, Vec, Global}
use Rattle.sspi_names.specs.Utf16.{bytes_le}
use Rattle.sspi_tsreq.specs.Creds.{buffers_text}
use Rattle.sspi_tsreq.proofs.CredsBack.{buffers_answer, empty_answer}
use Rattle.sspi_tsreq.proofs.creds_writing.write_ts_credentials.Goals as goal

pub returns-in-WithCredentials-clause-read_back : goal.returns-in-WithCredentials-clause-read_back
returns-in-WithCredentials-clause-read_back c =
    rw (c.in-AuthIdentity.is, c.in-WithCredentials.is)
    (buffers_answer (λ (text : Vec ℕ Global). text.items) c.write_buffers.result c.in-AuthIdentity.buffers c.write_buffers.ensures.text
    c.write_buffers.ensures.well_formed)

pub returns-in-CredentialLess-clause-text : goal.returns-in-CredentialLess-clause-text
unfolding buffers_text bytes_le
returns-in-CredentialLess-clause-text c = rw (c.in-AuthIdentity.is, c.in-CredentialLess.is) c.write_texts.ensures.text

pub returns-in-CredentialLess-clause-read_back : goal.returns-in-CredentialLess-clause-read_back
returns-in-CredentialLess-clause-read_back c =
    rw (c.in-AuthIdentity.is, c.in-CredentialLess.is)
    (empty_answer (λ (text : Vec ℕ Global). text.items) c.write_texts.result c.in-AuthIdentity.buffers c.write_texts.ensures.text)

pub returns-in-CredentialLess-clause-exact : goal.returns-in-CredentialLess-clause-exact
unfolding buffers_text bytes_le
returns-in-CredentialLess-clause-exact c = rw (c.in-AuthIdentity.is, c.in-CredentialLess.is) c.write_texts.ensures.exact
