use Rattle.sspi_tsreq.proofs.Fronts.{cut_ended}
use Rattle.sspi_tsreq.proofs.laws.cut_request_has_ended.Goals as goal

pub returns : goal.returns
returns c = cut_ended
