use Rattle.sspi_program.proofs.SeatedEnds.{place_is, seated_by, full_before}
use Rattle.sspi_program.proofs.words.desk.seat_one.Goals as goal

pub returns-clause-seated : goal.returns-clause-seated
returns-clause-seated c =
    seated_by c.args.scenario.now _ c.args.table.now c.join.new.self c.join.result
    (rw (c.into_inner.ensures, c.into_inner-2.ensures) (place_is c.args.scenario.now _ c.in_ok-ends.ensures)) c.join.ensures.joined

pub returns-clause-full : goal.returns-clause-full
returns-clause-full c = full_before c.args.table.now c.join.result c.join.ensures.refused
