use Rattle.sspi_play.proofs.PlainSeals.{plain_reads}
use Rattle.sspi_play.proofs.laws.plain_contexts_read_each_other.Goals as goal

pub returns : goal.returns
returns c = plain_reads
