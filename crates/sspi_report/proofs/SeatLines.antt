-- The lines of seats, and of one more.
use Rattle.std.proofs.Common.{◌≡◌, ℕ, ◌+◌, ◌<◌, List, [], ◌∷◌, ◌++◌, length, take, get_or}
use Rattle.std.proofs.Common.{sym, ap, ◌∙◌, append_assoc, append-nil, arith}
use Rattle.std.proofs.lemmas.List.{take_more, length-take}
use Rattle.sspi_seats.specs.declared.seat.Seat.{Seat}
use Rattle.sspi_report.specs.Seats.{lines_from, seat_line}

module _ {N K P D : Type 0} where
  lines_more : (n : ℕ) (seats : List (Seat N K P D)) (seat : Seat N K P D) →
      lines_from n (seats ++ seat ∷ []) ≡ lines_from n seats ++ seat_line (n + length seats) seat.outcome
  lines_more n [] seat = append-nil (seat_line n seat.outcome) ∙ ap (λ (m : ℕ). seat_line m seat.outcome) (omega arith)
  lines_more n (first ∷ seats) seat =
      ap (λ (text : List ℕ). seat_line n first.outcome ++ text) (lines_more (n + 1) seats seat)
      ∙ sym (append_assoc (seat_line n first.outcome) (lines_from (n + 1) seats) (seat_line (n + 1 + length seats) seat.outcome))
      ∙ ap (λ (m : ℕ). (seat_line n first.outcome ++ lines_from (n + 1) seats) ++ seat_line m seat.outcome) (omega arith)

  pub lines_taken : (seats : List (Seat N K P D)) (at : ℕ) (seat : Seat N K P D) (text new : List ℕ) → at < length seats →
      seat ≡ get_or seats at seat → text ≡ lines_from 0 (take at seats) → new ≡ text ++ seat_line at seat.outcome →
      new ≡ lines_from 0 (take (at + 1) seats)
  lines_taken seats at seat text new here is was added =
      let count : 0 + length (take at seats) ≡ at = omega (arith, length-take at seats, here) in
      added ∙ ap (λ (t : List ℕ). t ++ seat_line at seat.outcome) was
      ∙ sym (ap (lines_from 0) (take_more seats at seat here ∙ ap (λ (x : Seat N K P D). take at seats ++ x ∷ []) (sym is))
      ∙ lines_more 0 (take at seats) seat
      ∙ ap (λ (m : ℕ). lines_from 0 (take at seats) ++ seat_line m seat.outcome) count)
