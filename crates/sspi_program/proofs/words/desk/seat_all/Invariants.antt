use Rattle.std.proofs.Common.{◌≡◌, []}
use Rattle.sspi_program.specs.Desk.{places_in}
use Rattle.sspi_program.proofs.words.desk.seat_all.Given as goal

abbrev pub invariant-loop-seat : goal.invariant-loop-seat
invariant-loop-seat l = l.fn.table ≡ record { limit = l.count; places = [] } →
    l.table ≡ record { limit = l.count; places = places_in l.seat l.scenario }
