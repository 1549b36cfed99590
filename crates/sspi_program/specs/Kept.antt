-- What is kept of a run.
use Rattle.std.specs.Prelude.{◌≡◌, ℕ, List, None, Some}
use Rattle.sspi_program.specs.declared.record.Conducted.{Conducted}
use Rattle.sspi_program.specs.declared.record.Record.{Record}
use Rattle.sspi_program.specs.Seats.{PlainSeat}

-- a run of which nothing is kept
abbrev pub nothing : ℕ → Conducted
nothing status = record { status = status; kept = None; tally = None; seats = None }

-- a run of which this is kept, and nothing else
abbrev pub keeping : ℕ → Record → Conducted
keeping status kept = record (nothing status) { kept = Some kept }

-- the same for the records of many scenarios
abbrev pub tallying : ℕ → List Record → Conducted
tallying status tally = record (nothing status) { tally = Some tally }

-- the same for the sessions of a desk
abbrev pub seating : ℕ → List PlainSeat → Conducted
seating status seats = record (nothing status) { seats = Some seats }

-- at most a record is kept; at most the records of many scenarios; at most sessions
abbrev pub HasRecordAlone : Conducted → Type 0
HasRecordAlone conducted = conducted ≡ record (nothing conducted.status) { kept = conducted.kept }

abbrev pub HasTallyAlone : Conducted → Type 0
HasTallyAlone conducted = conducted ≡ record (nothing conducted.status) { tally = conducted.tally }

abbrev pub HasSeatsAlone : Conducted → Type 0
HasSeatsAlone conducted = conducted ≡ record (nothing conducted.status) { seats = conducted.seats }

-- the same run with this status
abbrev pub with_status : ℕ → Conducted → Conducted
with_status status conducted = record conducted { status = status }
