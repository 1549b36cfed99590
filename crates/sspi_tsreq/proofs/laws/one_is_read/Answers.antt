use Rattle.sspi_tsreq.proofs.RoundTrip.{one_request}
use Rattle.sspi_tsreq.proofs.laws.one_is_read.Goals as goal

pub returns : goal.returns
returns c = one_request
