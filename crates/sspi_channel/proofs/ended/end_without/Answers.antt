use Rattle.sspi_channel.proofs.Said.{said}
use Rattle.sspi_channel.proofs.ended.end_without.Goals as goal

pub returns-clause-says : goal.returns-clause-says
returns-clause-says g c = said c.error_text.result _ _ _ c.error_text.ensures c.say.ensures
