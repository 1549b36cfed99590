use Rattle.sspi_credssp.proofs.LittleEndian.{AreBytes-all, decremented-incremented}
use Rattle.sspi_credssp.proofs.public_key.decrement_undoes_increment.Goals as goal

pub returns : goal.returns
returns c = λ bytes all. decremented-incremented bytes (AreBytes-all bytes all)
