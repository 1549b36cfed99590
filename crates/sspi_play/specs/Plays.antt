-- What a schedule of deliveries makes two ends do: which turns, and each end's state after them.
-- Deliveries and turns are lists, the newest first.
use Rattle.std.specs.Prelude.{◌≡◌, ◌≢◌, ◌||◌, ℕ, List, [], ◌∷◌, reverse, take, Option, None, Some}
use Rattle.std.specs.Prelude.{Bool, true, false, not, if◌then◌else◌}
use Rattle.sspi_types.specs.declared.error_kind.ErrorKind.{ErrorKind}
use Rattle.sspi_ber.specs.Pieces.{Fault, Ended, Invalid}
use Rattle.sspi_ber.specs.declared.wire_kind.WireKind.{WireKind}
use Rattle.sspi_ber.specs.declared.wire_kind.WireKind.TheVariants.{UnexpectedEof, InvalidData}
use Rattle.sspi_tsreq.specs.declared.request.TsRequest.{TsRequest}
use Rattle.sspi_tsreq.specs.Reading.{fault}
use Rattle.sspi_tsreq.specs.Grammar.{first_request}
use Rattle.sspi_credssp.specs.declared.turn.End.{End}
use Rattle.sspi_credssp.specs.declared.turn.End.TheVariants.{Client, Server}
use Rattle.sspi_credssp.specs.declared.turn.Outcome.{Outcome}
use Rattle.sspi_credssp.specs.declared.turn.Outcome.TheVariants as outcome
use Rattle.sspi_credssp.specs.declared.turn.Turn.{Turn}
use Rattle.sspi_delegate.specs.Turns.{client_turns, server_turns}
use Rattle.sspi_delegate.specs.Log.{IsRead}
use Rattle.sspi_play.specs.declared.played.Delivery.{Delivery}
use Rattle.sspi_play.specs.declared.played.Ending.{Ending}
use Rattle.sspi_play.specs.declared.played.Ending.TheVariants.{Running, Refused, Unread}
use Rattle.sspi_types.specs.declared.error_kind.ErrorKind.TheVariants as kinds

-- ---- the deliveries to an end

abbrev pub is_for : End → End → Bool
is_for Client Client = true
is_for Client Server = false
is_for Server Client = false
is_for Server Server = true

abbrev pub any_for : End → List Delivery → Bool
any_for end [] = false
any_for end (d ∷ past) = is_for end d.to || any_for end past

-- after these deliveries, the next one to this end is its start, which is not read: a client makes
-- its first request itself
abbrev pub is_start : End → List Delivery → Bool
is_start Client past = not (any_for Client past)
is_start Server past = false

abbrev pub wire_kind_of : Option Fault → Option WireKind
wire_kind_of None = None
wire_kind_of (Some Ended) = Some UnexpectedEof
wire_kind_of (Some Invalid) = Some InvalidData

-- why the octets of a delivery are not a request, if they are read
abbrev pub unread_kind : Bool → List ℕ → Option WireKind
unread_kind true bytes = None
unread_kind false bytes = wire_kind_of (fault bytes)

-- the same, if the delivery is for this end
abbrev pub unread_for : End → Delivery → List Delivery → Option WireKind
unread_for end d past = if is_for end d.to then unread_kind (is_start end past) d.bytes else None

abbrev pub or_later : Option WireKind → Option WireKind → Option WireKind
or_later None later = later
or_later (Some first) later = Some first

-- the fault of the first delivery to this end that is not a request
abbrev pub first_unread : End → List Delivery → Option WireKind
first_unread end [] = None
first_unread end (d ∷ past) = or_later (first_unread end past) (unread_for end d past)

-- ---- the turns of an end

abbrev pub turns_by : End → List Turn → List Turn
turns_by Client turns = client_turns turns
turns_by Server turns = server_turns turns

abbrev pub refusal_in : Outcome → Option ErrorKind
refusal_in (outcome.Reply reply) = None
refusal_in (outcome.Final reply) = None
refusal_in outcome.Finished = None
refusal_in (outcome.Refused kind reply) = Some kind

-- the kind with which the newest turn was refused
abbrev pub last_refusal : List Turn → Option ErrorKind
last_refusal [] = None
last_refusal (t ∷ past) = refusal_in t.outcome

-- ---- an end's state

-- it refused its last turn; or else a delivery to it was not a request, and the first such one
-- decides; or else it runs
abbrev pub ending_by : Option ErrorKind → Option WireKind → Ending
ending_by (Some kind) unread = Refused kind
ending_by None (Some kind) = Unread kind
ending_by None None = Running

abbrev pub ending_of : End → List Delivery → List Turn → Ending
ending_of end deliveries turns = ending_by (last_refusal (turns_by end turns))
    (first_unread end deliveries)

-- ---- the turns of a schedule

-- what a turn is given: its end's own first request, or the one that the octets begin with
abbrev pub IsGiven : Bool → List ℕ → TsRequest → Type 0
IsGiven true bytes request = request ≡ first_request
IsGiven false bytes request = IsRead bytes request

-- These turns are those of these deliveries, in their order. A delivery makes a turn exactly if its
-- end still runs with it; otherwise it is passed over.
pub data Plays : List Delivery → List Turn → Type 0 where
  begins : Plays [] []
  takes : (d : Delivery) (past : List Delivery) (t : Turn) (turns : List Turn) → Plays past turns →
      ending_of d.to (d ∷ past) turns ≡ Running → t.end ≡ d.to →
      IsGiven (is_start d.to past) d.bytes t.delivered →
      Plays (d ∷ past) (t ∷ turns)
  passes : (d : Delivery) (past : List Delivery) (turns : List Turn) → Plays past turns →
      ending_of d.to (d ∷ past) turns ≢ Running → Plays (d ∷ past) turns

-- no turn was refused for lack of memory
abbrev pub AllHadMemory : List Turn → Type 0
AllHadMemory [] = Unit {0}
AllHadMemory (t ∷ past) = (refusal_in t.outcome ≢ Some kinds.InsufficientMemory) × AllHadMemory past

-- a refusal for lack of memory ends the play, so only the newest turn may be one
abbrev pub OthersHadMemory : List Turn → Type 0
OthersHadMemory [] = Unit {0}
OthersHadMemory (t ∷ past) = AllHadMemory past

-- This delivery, after those that made these turns, gives this request to a client that still runs
-- with it.
pub record IsTaken (d : Delivery) (past : List Delivery) (turns : List Turn)
    (request : TsRequest) : Type 0 where
  pub plays : Plays past turns
  pub memory : AllHadMemory turns
  pub to : d.to ≡ Client
  pub runs : ending_of Client (d ∷ past) turns ≡ Running
  pub given : IsGiven (is_start Client past) d.bytes request

-- the next delivery of the schedule, after these turns, gives the client this request
pub record IsNext (schedule : List Delivery) (turns : List Turn) (request : TsRequest) : Type 0
  where
    pub handed : ℕ
    pub delivery : Delivery
    pub past : List Delivery
    pub front : reverse (take handed schedule) ≡ delivery ∷ past
    pub taken : IsTaken delivery past turns request

-- this end did not refuse for lack of memory
abbrev pub IsNoWant : Ending → Type 0
IsNoWant Running = Unit {0}
IsNoWant (Refused kind) = kind ≢ kinds.InsufficientMemory
IsNoWant (Unread kind) = Unit {0}
