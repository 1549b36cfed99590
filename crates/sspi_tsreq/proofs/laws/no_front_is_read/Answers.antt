use Rattle.sspi_tsreq.proofs.RoundTrip.{no_front}
use Rattle.sspi_tsreq.proofs.laws.no_front_is_read.Goals as goal

pub returns : goal.returns
returns c = no_front
