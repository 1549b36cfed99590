-- The report of a table: a line for each seat.
use Rattle.std.specs.Prelude.{ℕ, ◌+◌, List, [], ◌∷◌, ◌++◌, codes}
use Rattle.std.specs.Fmt.{decimal}
use Rattle.sspi_seats.specs.declared.seat.Seat.{Seat}
use Rattle.sspi_seats.specs.declared.seat.SeatOutcome.{SeatOutcome}
use Rattle.sspi_seats.specs.declared.seat.SeatOutcome.TheVariants as seats
use Rattle.sspi_report.specs.Entries.{line}
use Rattle.sspi_report.specs.Outcome.{delegated_text, read_text, refusal_text, write_text}

-- the text of an outcome, in the words of a delegation
abbrev pub seat_text : SeatOutcome → List ℕ
seat_text (seats.Ok turns credentials) = delegated_text turns credentials
seat_text (seats.Client error) = codes "client " ++ refusal_text error
seat_text (seats.Server error) = codes "server " ++ refusal_text error
seat_text (seats.Read end kind) = read_text end kind
seat_text (seats.Write end) = write_text end
seat_text seats.TurnsSpent = codes "turns"

abbrev pub seat_line : ℕ → SeatOutcome → List ℕ
seat_line session outcome = codes "session " ++ decimal session ++ codes " " ++
    line (seat_text outcome)

module _ {N K P D : Type 0} where
  -- the lines of seats, the first of which has this number
  abbrev pub lines_from : ℕ → List (Seat N K P D) → List ℕ
  lines_from session [] = []
  lines_from session (seat ∷ seats) = seat_line session seat.outcome ++
      lines_from (session + 1) seats

  abbrev pub seats_text : List (Seat N K P D) → List ℕ
  seats_text seats = lines_from 0 seats
