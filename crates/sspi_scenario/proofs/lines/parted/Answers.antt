use Rattle.sspi_scenario.proofs.Parting.{parted-is}
use Rattle.sspi_scenario.proofs.lines.parted.Goals as goal

pub returns : goal.returns
returns c = parted-is c.args.text.now c.split_once.result c.split_once.ensures.cases
