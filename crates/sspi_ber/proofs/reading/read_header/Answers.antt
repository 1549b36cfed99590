use Rattle.sspi_ber.proofs.Rest.{rest_then}
use Rattle.sspi_ber.proofs.reading.read_header.Goals as goal

pub returns-clause-rest : goal.returns-clause-rest
returns-clause-rest g c = rest_then c.read_byte.ensures.rest c.read_length.ensures.rest
