-- What the word `gate` promises.
use Rattle.std.specs.Prelude.{◌≡◌, ℕ, ◌≤◌, List, [], ◌++◌, reverse, Some, Result, Ok, Err}
use Rattle.std.specs.List.{flat_map}
use Rattle.sspi_credssp.specs.declared.turn.End.{End}
use Rattle.sspi_credssp.specs.declared.turn.End.TheVariants.{Client, Server}
use Rattle.sspi_delegate.specs.declared.carried.Carried.{Carried}
use Rattle.sspi_gate.specs.declared.answer.GateError.{GateError}
use Rattle.sspi_gate.specs.declared.answer.Relayed.{Relayed}
use Rattle.sspi_gate.specs.Relay.{IsRelay}
use Rattle.sspi_gate.specs.Way.{Way}
use Rattle.sspi_report.specs.Gate.{gate_line}
use Rattle.sspi_scenario.specs.declared.purpose.Purpose.TheVariants.{Exchange}
use Rattle.sspi_scenario.specs.declared.scenario.Scenario.{Scenario}
use Rattle.sspi_scenario.specs.Scenario.{scenario_of}
use Rattle.sspi_program.specs.declared.record.Record.{Record}
use Rattle.sspi_program.specs.Said.{report_of}
use Rattle.sspi_program.specs.Status.{IsUnlessFault}

-- these bytes, if they come from this end
abbrev pub bytes_from : End → End → List ℕ → List ℕ
bytes_from Client Client bytes = bytes
bytes_from Client Server bytes = []
bytes_from Server Client bytes = []
bytes_from Server Server bytes = bytes

-- what was delivered of an entry that this end sent
abbrev pub delivered_from : End → Carried → List ℕ
delivered_from end entry = bytes_from end entry.from entry.delivered

-- what was delivered of the messages of an end, one after the other
abbrev pub stream_of : End → List Carried → List ℕ
stream_of end log = flat_map (delivered_from end) log

-- from a stream of these bytes to a sink to which nothing was written
abbrev pub way_of : List ℕ → Way
way_of bytes = record { left = Some bytes; read_faults = 0; written = Some []; write_faults = 0 }

-- a relay of these two streams answers this
pub record Relays (limit : ℕ) (client server : List ℕ) (answer : Result Relayed GateError) : Type 0
  where
    pub up : Way
    pub down : Way
    pub relay : IsRelay limit (way_of client) (way_of server) up down answer

abbrev pub relayed_status : Result Relayed GateError → ℕ
relayed_status (Ok relayed) = 0
relayed_status (Err error) = 1

-- The report of the exchange, followed by the line of a relay of the two streams that its log
-- delivered.
pub record IsGated (kept : Record) (status : ℕ) (text : List ℕ) : Type 0 where
  pub answer : Result Relayed GateError
  pub relays : Relays kept.scenario.turns (stream_of Client (reverse kept.link.log))
      (stream_of Server (reverse kept.link.log)) answer
  pub line : List ℕ
  pub line_is : gate_line answer ≡ Some line
  pub status_is : status ≡ relayed_status answer
  pub text_is : text ≡ report_of kept ++ line

-- a scenario ends with 0 or 1, whatever its relay came to, except for a fault or out of memory
abbrev pub GateEnds : List ℕ → ℕ → Type 0
GateEnds text status =
    (scenario : Scenario) → scenario_of Exchange text ≡ Ok scenario → (own : ℕ) × (own ≤ 1) ×
    IsUnlessFault own status
