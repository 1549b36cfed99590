use Rattle.sspi_tsreq.proofs.CredsAre.{bad_text_is, bad_text_refused}
use Rattle.sspi_tsreq.proofs.creds_laws.bad_text_is_grammar.Goals as goal

pub returns : goal.returns
returns c = λ text. (bad_text_is text, bad_text_refused text)
