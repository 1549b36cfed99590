-- What the word `desk` promises.
use Rattle.std.specs.Prelude.{◌≡◌, ℕ, List, [], replicate, Bool, true, false, None, if◌then◌else◌}
use Rattle.std.specs.List.{list_all}
use Rattle.sspi_mech.specs.PlainKdc.{PlainKdcState}
use Rattle.sspi_credssp.specs.Acts.{no_acts}
use Rattle.sspi_credssp.specs.Ends.{ClientView, ServerView}
use Rattle.sspi_credssp.specs.Table.{TableView, table_meaning}
use Rattle.sspi_credssp.specs.declared.state.CredSspState.TheVariants.{NegoToken}
use Rattle.sspi_delegate.specs.Headline.{calls_of_kdc}
use Rattle.sspi_report.specs.Seats.{seats_text}
use Rattle.sspi_scenario.specs.declared.scenario.Scenario.{Scenario}
use Rattle.sspi_seats.specs.Seat.{Place, place}
use Rattle.sspi_seats.specs.Table.{AreSeats}
use Rattle.sspi_seats.specs.declared.seat.SeatOutcome.{SeatOutcome}
use Rattle.sspi_seats.specs.declared.seat.SeatOutcome.TheVariants as seats
use Rattle.sspi_program.specs.Ends.{PlainContext, client_settings_in, server_settings_in, kdc_in}
use Rattle.sspi_program.specs.Exchange.{plain_meaning, around}
use Rattle.sspi_program.specs.Seats.{PlainSeat}

-- ---- the ends

-- the client that the scenario names, as it is made
abbrev pub client_in : Scenario → ClientView PlainContext
client_in scenario = record {
  settings = client_settings_in scenario;
  state = NegoToken;
  context = None;
  handle = None;
  noted = None;
  acts = no_acts;
  output = [];
  kept = None;
}

-- the server, whose table has not been asked yet
abbrev pub server_in : Scenario → ServerView PlainContext TableView
server_in scenario = record {
  settings = server_settings_in scenario;
  proxy = record {
    entries = scenario.account;
    failing = scenario.proxy_fail;
    calls = 0;
    faults = 0;
  };
  state = NegoToken;
  context = None;
  handle = None;
  noted = None;
  acts = no_acts;
  output = [];
}

abbrev pub place_in : Scenario → Place PlainContext TableView PlainKdcState
place_in scenario = place (client_in scenario) (kdc_in scenario) (server_in scenario)

-- the places of this many clients of one scenario
abbrev pub places_in : ℕ → Scenario → List (Place PlainContext TableView PlainKdcState)
places_in count scenario = replicate count (place_in scenario)

-- ---- the sessions

-- this many clients had a session each at one desk
abbrev pub HasSeats : ℕ → Scenario → List PlainSeat → Type 0
HasSeats count scenario seats = AreSeats plain_meaning table_meaning (calls_of_kdc around)
    (places_in count scenario) scenario.turns seats

-- ---- the report

-- the server has the credentials
abbrev pub is_ok : SeatOutcome → Bool
is_ok (seats.Ok turns credentials) = true
is_ok (seats.Client error) = false
is_ok (seats.Server error) = false
is_ok (seats.Read end kind) = false
is_ok (seats.Write end) = false
is_ok seats.TurnsSpent = false

abbrev pub seats_status : List PlainSeat → ℕ
seats_status seats = if list_all (λ seat. is_ok seat.outcome) seats then 0 else 1

-- the status and the text that are due for sessions
abbrev pub SeatsDue : List PlainSeat → ℕ → List ℕ → Type 0
SeatsDue seats status text = (status ≡ seats_status seats) × (text ≡ seats_text seats)
