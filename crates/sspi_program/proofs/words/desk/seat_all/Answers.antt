use Rattle.sspi_program.proofs.SeatedEnds.{seated_more}
use Rattle.sspi_program.proofs.words.desk.seat_all.Goals as goal

pub loop-seat-init : goal.loop-seat-init
loop-seat-init c empty = empty

pub loop-seat-preserved : goal.loop-seat-preserved
loop-seat-preserved c empty =
    seated_more c.args.count c.loop-seat.seat c.args.scenario.now c.loop-seat.table c.seat_one.new.table (c.loop-seat.invariant empty)
    c.in_ok-seat_one.ensures.seated
