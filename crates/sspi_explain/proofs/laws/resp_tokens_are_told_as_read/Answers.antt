use Rattle.sspi_explain.proofs.ReadsTokens.{resp_read}
use Rattle.sspi_explain.proofs.laws.resp_tokens_are_told_as_read.Goals as goal

pub returns : goal.returns
returns c = resp_read
