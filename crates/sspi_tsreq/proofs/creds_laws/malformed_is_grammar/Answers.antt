use Rattle.sspi_tsreq.proofs.CredsAre.{malformed_is, malformed_refused}
use Rattle.sspi_tsreq.proofs.creds_laws.malformed_is_grammar.Goals as goal

pub returns : goal.returns
returns c = λ text. (malformed_is text, malformed_refused text)
