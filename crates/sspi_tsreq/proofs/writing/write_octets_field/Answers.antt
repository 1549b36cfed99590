use Rattle.sspi_tsreq.proofs.Capped.{octets_fit}
use Rattle.sspi_tsreq.specs.Spelling.{octets_field}
use Rattle.sspi_tsreq.proofs.writing.write_octets_field.Goals as goal

pub write_wrapped_octets-requires-clause-value : goal.write_wrapped_octets-requires-clause-value
unfolding octets_field
write_wrapped_octets-requires-clause-value g c = rw c.as_slice.ensures
    (octets_fit c.args.tag c.in-Some.octets (rw c.in-Some.is at c.requires)).0

pub write_wrapped_octets-requires-clause-whole : goal.write_wrapped_octets-requires-clause-whole
unfolding octets_field
write_wrapped_octets-requires-clause-whole g c = rw c.as_slice.ensures
    (octets_fit c.args.tag c.in-Some.octets (rw c.in-Some.is at c.requires)).1
