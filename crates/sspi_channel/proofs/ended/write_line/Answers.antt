use Rattle.sspi_channel.specs.Ended.{written}
use Rattle.sspi_channel.proofs.ended.write_line.Goals as goal

pub returns : goal.returns
returns g c = written c.write_all-written.result c.write_all-written.ensures.wrote
