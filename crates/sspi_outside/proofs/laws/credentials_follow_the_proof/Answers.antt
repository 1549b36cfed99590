use Rattle.sspi_outside.proofs.Reported.{credentials_follow}
use Rattle.sspi_outside.proofs.laws.credentials_follow_the_proof.Goals as goal

pub returns : goal.returns
returns c = credentials_follow
