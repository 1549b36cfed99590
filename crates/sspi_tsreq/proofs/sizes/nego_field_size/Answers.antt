use Rattle.sspi_tsreq.specs.Spelling.{nego_field}
use Rattle.sspi_tsreq.proofs.Capped.{token_capped}
use Rattle.sspi_tsreq.proofs.sizes.nego_field_size.Goals as goal

pub returns-in-Some-clause-capped : goal.returns-in-Some-clause-capped
unfolding nego_field
returns-in-Some-clause-capped c =
    rw c.in-Some.is (token_capped c.capped_element.result c.capped_element-item.result c.capped_element-in-Some.result
    c.capped_element-in-Some-2.result c.capped_element-in-Some-3.result
    c.in-Some.token (rw c.len.ensures at c.capped_element.ensures.capped) c.capped_element-item.ensures.capped
    c.capped_element-in-Some.ensures.capped c.capped_element-in-Some-2.ensures.capped
    c.capped_element-in-Some-3.ensures.capped)
