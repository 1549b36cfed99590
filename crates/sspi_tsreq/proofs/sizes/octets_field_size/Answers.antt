use Rattle.sspi_tsreq.specs.Spelling.{octets_field}
use Rattle.sspi_tsreq.proofs.Capped.{octets_capped}
use Rattle.sspi_tsreq.proofs.sizes.octets_field_size.Goals as goal

pub returns-in-Some-clause-capped : goal.returns-in-Some-clause-capped
unfolding octets_field
returns-in-Some-clause-capped c = λ tag.
    rw c.in-Some.is (octets_capped tag c.capped_element.result c.capped_element-in-Some.result c.in-Some.octets
    (rw c.len.ensures at c.capped_element.ensures.capped) c.capped_element-in-Some.ensures.capped)
