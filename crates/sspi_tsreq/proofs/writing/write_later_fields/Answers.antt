use Rattle.sspi_ber.proofs.Written.{writes_then}
use Rattle.sspi_tsreq.specs.Spelling.{later_fields}
use Rattle.sspi_tsreq.proofs.writing.write_later_fields.Goals as goal

pub returns-clause-wrote : goal.returns-clause-wrote
unfolding later_fields
returns-clause-wrote g c =
    writes_then _ _ _ c.write_last_fields.result _ _ c.in_ok-write_octets_field.ensures.wrote
    (writes_then _ _ _ c.write_last_fields.result _ _ c.in_ok-write_octets_field-2.ensures.wrote c.write_last_fields.ensures.wrote)
