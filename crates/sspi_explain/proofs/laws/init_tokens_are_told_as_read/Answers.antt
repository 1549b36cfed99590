use Rattle.sspi_explain.proofs.ReadsTokens.{init_read}
use Rattle.sspi_explain.proofs.laws.init_tokens_are_told_as_read.Goals as goal

pub returns : goal.returns
returns c = init_read
