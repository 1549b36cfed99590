use Rattle.sspi_names.proofs.Joined.{inner_back}
use Rattle.sspi_names.proofs.Identities.{inner_of-IsUtf8}
use Rattle.sspi_names.proofs.laws.shown_name_is_read.Goals as goal

pub returns : goal.returns
returns c = record { read = inner_back; text = inner_of-IsUtf8 }
