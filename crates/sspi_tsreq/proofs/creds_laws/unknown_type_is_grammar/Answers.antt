use Rattle.sspi_tsreq.proofs.CredsAre.{unknown_is, unknown_refused}
use Rattle.sspi_tsreq.proofs.creds_laws.unknown_type_is_grammar.Goals as goal

pub returns : goal.returns
returns c = λ text. (unknown_is text, unknown_refused text)
