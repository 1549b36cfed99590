use Rattle.std.proofs.Common.{ℕ, List, subst}
use Rattle.sspi_mech.specs.PlainKdc.{PlainKdcState}
use Rattle.sspi_credssp.specs.Table.{TableView, table_meaning}
use Rattle.sspi_delegate.specs.Headline.{calls_of_kdc}
use Rattle.sspi_seats.specs.Seat.{Place}
use Rattle.sspi_seats.specs.Table.{AreSeats}
use Rattle.sspi_program.specs.Desk.{places_in}
use Rattle.sspi_program.specs.Ends.{PlainContext}
use Rattle.sspi_program.specs.Exchange.{plain_meaning, around}
use Rattle.sspi_program.proofs.Conducting.{conducts_seats}
use Rattle.sspi_program.proofs.words.desk.serve.Goals as goal

pub returns-in-Ok : goal.returns-in-Ok
returns-in-Ok c count scenario joined is =
    conducts_seats count scenario c.in-Ok.seats c.said_of_seats.result
    (subst (λ (n : ℕ). AreSeats plain_meaning table_meaning (calls_of_kdc around) (places_in count scenario) n c.in-Ok.seats) is
    (subst (λ (cames : List (Place PlainContext TableView PlainKdcState)).
    AreSeats plain_meaning table_meaning (calls_of_kdc around) cames c.args.limit c.in-Ok.seats) joined c.in-Ok.ensures))
    c.said_of_seats.ensures
