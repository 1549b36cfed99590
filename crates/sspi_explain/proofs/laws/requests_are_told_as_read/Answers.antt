use Rattle.sspi_explain.proofs.ReadsRequest.{request_read}
use Rattle.sspi_explain.proofs.laws.requests_are_told_as_read.Goals as goal

pub returns : goal.returns
returns c = request_read
