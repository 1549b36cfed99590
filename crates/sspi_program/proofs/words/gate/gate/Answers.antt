use Rattle.sspi_program.proofs.Conducting.{conducts_gate}
use Rattle.sspi_program.proofs.words.gate.gate.Goals as goal

pub returns-in-Ok : goal.returns-in-Ok
returns-in-Ok c held =
    conducts_gate c.args.scenario c.in-Ok.made c.gated-told.result c.in-Ok.ensures.scenario (c.in-Ok.ensures.exchange held)
    c.said_with.result c.gated-told.ensures c.said_with.ensures
