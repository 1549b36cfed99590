use Rattle.sspi_program.proofs.Conducting.{generates}
use Rattle.sspi_program.proofs.Tallying.{tally_none}
use Rattle.sspi_program.proofs.words.generate.generate.Goals as goal

pub returns-in-Ok : goal.returns-in-Ok
returns-in-Ok c =
    generates c.args.count c.add_exchanges.new.tally c.summed.result
    (c.in-Ok.ensures (tally_none c.new-tally.result c.new-tally.ensures)) c.summed.ensures
