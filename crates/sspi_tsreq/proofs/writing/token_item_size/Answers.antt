use Rattle.sspi_tsreq.proofs.Capped.{length-token_item}
use Rattle.sspi_tsreq.proofs.writing.token_item_size.Goals as goal

pub returns-clause-size : goal.returns-clause-size
returns-clause-size c = rw length-token_item (cc)
