use Rattle.std.proofs.Common.{ap, ◌∙◌}
use Rattle.sspi_report.specs.Seats.{seats_text}
use Rattle.sspi_program.specs.Desk.{seats_status}
use Rattle.sspi_program.proofs.Conducting.{seats_done}
use Rattle.sspi_program.proofs.words.desk.said_of_seats.Goals as goal

pub returns-in-Ok : goal.returns-in-Ok
returns-in-Ok c =
    seats_done c.seats_status-status.result c.args.seats c.seating.result _ c.seating.ensures
    (c.seats_status-status.ensures ∙ ap seats_status c.as_slice.ensures) (c.in-Ok.ensures ∙ ap seats_text c.as_slice-2.ensures)
