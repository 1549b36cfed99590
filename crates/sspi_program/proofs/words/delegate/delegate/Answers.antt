use Rattle.sspi_program.proofs.Conducting.{conducts_exchange}
use Rattle.sspi_program.proofs.words.delegate.delegate.Goals as goal

pub returns-in-Ok : goal.returns-in-Ok
returns-in-Ok c held =
    conducts_exchange c.args.scenario c.in-Ok.made c.said_of.result c.in-Ok.ensures.scenario (c.in-Ok.ensures.exchange held)
    c.said_of.ensures
