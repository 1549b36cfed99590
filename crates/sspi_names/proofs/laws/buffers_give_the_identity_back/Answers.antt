use Rattle.sspi_names.proofs.Identities.{buffers_back, buffers_of-AreBuffers}
use Rattle.sspi_names.proofs.laws.buffers_give_the_identity_back.Goals as goal

pub returns : goal.returns
returns c = record { identity = buffers_back; buffers = buffers_of-AreBuffers }
