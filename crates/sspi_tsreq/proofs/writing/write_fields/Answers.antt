use Rattle.sspi_ber.proofs.Written.{writes_then}
use Rattle.sspi_tsreq.specs.Spelling.{fields, version_field}
use Rattle.sspi_tsreq.proofs.writing.write_fields.Goals as goal

pub returns-clause-wrote : goal.returns-clause-wrote
unfolding fields version_field
returns-clause-wrote g c =
    writes_then _ _ _ c.write_later_fields.result _ _ c.in_ok-write_wrapped_integer.ensures.wrote
    (writes_then _ _ _ c.write_later_fields.result _ _ c.in_ok-write_nego_field.ensures.wrote c.write_later_fields.ensures.wrote)
