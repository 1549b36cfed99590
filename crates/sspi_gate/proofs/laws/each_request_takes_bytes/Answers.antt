use Rattle.sspi_framing.proofs.Fronts.{each_takes_bytes}
use Rattle.sspi_gate.proofs.laws.each_request_takes_bytes.Goals as goal

pub returns : goal.returns
returns c = each_takes_bytes
