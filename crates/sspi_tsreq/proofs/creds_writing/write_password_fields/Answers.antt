use Rattle.sspi_ber.proofs.Written.{writes_then}
use Rattle.sspi_tsreq.specs.Creds.{password_fields, wrapped_octets}
use Rattle.sspi_tsreq.proofs.creds_writing.write_password_fields.Goals as goal

pub returns-clause-wrote : goal.returns-clause-wrote
unfolding password_fields wrapped_octets
returns-clause-wrote g c =
    writes_then _ _ _ c.write_wrapped_octets-3.result _ _ c.in_ok-write_wrapped_octets.ensures.wrote
    (writes_then _ _ _ c.write_wrapped_octets-3.result _ _ c.in_ok-write_wrapped_octets-2.ensures.wrote
    c.write_wrapped_octets-3.ensures.wrote)
