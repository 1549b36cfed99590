use Rattle.sspi_program.proofs.Conducting.{conducts_play}
use Rattle.sspi_program.proofs.words.play.play.Goals as goal

pub returns-in-Ok : goal.returns-in-Ok
returns-in-Ok c =
    conducts_play c.args.scenario c.in-Ok.made c.said_of.result c.in-Ok.ensures.scenario c.in-Ok.ensures.play c.said_of.ensures
