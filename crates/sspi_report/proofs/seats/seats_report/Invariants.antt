use Rattle.std.proofs.Common.{◌≡◌, string_bytes, take}
use Rattle.sspi_report.specs.Seats.{lines_from}
use Rattle.sspi_report.proofs.seats.seats_report.Given as goal

abbrev pub invariant-loop-session : goal.invariant-loop-session
invariant-loop-session g l = string_bytes l.text ≡ lines_from 0 (take l.session l.seats)
