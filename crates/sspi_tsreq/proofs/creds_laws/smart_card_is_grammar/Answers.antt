use Rattle.sspi_tsreq.proofs.CredsAre.{smart_card_is, smart_card_refused}
use Rattle.sspi_tsreq.proofs.creds_laws.smart_card_is_grammar.Goals as goal

pub returns : goal.returns
returns c = λ text. (smart_card_is text, smart_card_refused text)
