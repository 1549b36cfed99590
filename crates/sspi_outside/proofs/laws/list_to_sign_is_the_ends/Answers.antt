use Rattle.sspi_outside.proofs.Mics.{list_owed}
use Rattle.sspi_outside.proofs.laws.list_to_sign_is_the_ends.Goals as goal

pub returns : goal.returns
returns c = list_owed
