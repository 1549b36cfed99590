use Rattle.sspi_outside.proofs.Mics.{mic_good}
use Rattle.sspi_outside.proofs.laws.mic_is_good_as_reported.Goals as goal

pub returns : goal.returns
returns c = mic_good
