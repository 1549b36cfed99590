use Rattle.sspi_tsreq.proofs.Capped.{length-token_item, length-token_list}
use Rattle.sspi_tsreq.proofs.writing.token_list_size.Goals as goal

pub returns-clause-size : goal.returns-clause-size
returns-clause-size c = rw length-token_list (cc)

pub returns-clause-small : goal.returns-clause-small
returns-clause-small c = rw (c.size_of_element.ensures.size, c.token_item_size.ensures.size, length-token_item) c.requires.field
