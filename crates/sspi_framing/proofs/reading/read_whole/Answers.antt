use Rattle.sspi_framing.proofs.Whole.{read_as}
use Rattle.sspi_framing.proofs.reading.read_whole.Goals as goal

pub returns : goal.returns
returns c = read_as c.args.bytes.now c.from_buffer.result c.requires c.from_buffer.ensures.answer
