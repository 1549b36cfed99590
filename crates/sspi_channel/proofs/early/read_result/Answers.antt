use Rattle.sspi_channel.proofs.Fronts.{front_read}
use Rattle.sspi_channel.proofs.early.read_result.Goals as goal

pub returns-clause-read : goal.returns-clause-read
returns-clause-read g c =
    front_read _ _ c.from_buffer.new.source c.read_front.new.into c.in_ok-count.count c.from_buffer.result c.in_ok-count.ensures.size
    c.in_ok-count.ensures.front (rw c.new.ensures at c.from_buffer.ensures.read)
