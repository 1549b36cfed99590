use Rattle.sspi_program.proofs.Conducting.{conducts_audit}
use Rattle.sspi_program.proofs.words.audit.audit.Goals as goal

pub returns-in-Ok : goal.returns-in-Ok
returns-in-Ok c held =
    conducts_audit c.args.scenario c.in-Ok.made c.audited-told.result c.in-Ok.ensures.scenario (c.in-Ok.ensures.exchange held)
    c.said_with.result c.audited-told.ensures c.said_with.ensures
