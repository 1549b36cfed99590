use Rattle.sspi_outside.proofs.Texts.{closed_has_none}
use Rattle.sspi_outside.proofs.laws.unopened_blob_has_no_text.Goals as goal

pub returns : goal.returns
returns c = closed_has_none
