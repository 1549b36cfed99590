use Rattle.sspi_ber.proofs.Rest.{rest_then}
use Rattle.sspi_ber.proofs.reading.read_integer.Goals as goal

pub returns-then-is_integer_size-clause-rest : goal.returns-then-is_integer_size-clause-rest
returns-then-is_integer_size-clause-rest g c = rest_then c.read_header.ensures.rest c.read_number.ensures.rest
