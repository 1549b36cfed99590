-- What turns, calls and answers show of an outcome; each is a list, newest first.
use Rattle.std.specs.Prelude.{◌≡◌, ◌≢◌, ℕ, false, List, [], ◌∷◌, length, Option, Result, Ok, Err}
use Rattle.sspi_types.specs.declared.error.Error.{Error}
use Rattle.sspi_types.specs.declared.error_kind.ErrorKind.TheVariants as kinds
use Rattle.sspi_ber.specs.declared.wire_kind.WireKind.{WireKind}
use Rattle.sspi_tsreq.specs.declared.request.TsRequest.{TsRequest}
use Rattle.sspi_credssp.specs.declared.turn.End.TheVariants.{Client, Server}
use Rattle.sspi_credssp.specs.declared.turn.Turn.{Turn}
use Rattle.sspi_delegate.specs.Log.{NewestIs, NewestFits, IsClientRefusal}
use Rattle.sspi_delegate.specs.Turns.{GoesOn}
use Rattle.sspi_desk.specs.Call.{HasFault}
use Rattle.sspi_desk.specs.declared.answer.DeskError.{DeskError}
use Rattle.sspi_desk.specs.declared.answer.DeskError.TheVariants.{Unread, Refused, TooLong}
use Rattle.sspi_desk.specs.declared.answer.Served.{Served}
use Rattle.sspi_desk.specs.declared.answer.Served.TheVariants.{Answer, Finished}
use Rattle.sspi_seats.specs.Messages.{IsNext, AreServed, AreServedButLast}
use Rattle.sspi_seats.specs.declared.seat.SeatOutcome.{SeatOutcome}
use Rattle.sspi_seats.specs.declared.seat.SeatOutcome.TheVariants as seats

-- this holds of the newest answer
abbrev pub NewestAnswer : (Result Served DeskError → Type 0) → List (Result Served DeskError) →
    Type 0
NewestAnswer P [] = ⊥
NewestAnswer P (answer ∷ past) = P answer

-- the server refused with this error
abbrev pub IsRefusedWith : Error → Result Served DeskError → Type 0
IsRefusedWith error answer = (text : Option (List ℕ)) × (answer ≡ Err (Refused error text))

-- the answer's bytes do not begin with a request, for this reason
abbrev pub IsUnreadable : WireKind → Result Served DeskError → Type 0
IsUnreadable kind (Ok (Answer text)) = HasFault text kind
IsUnreadable kind (Ok (Finished identity)) = ⊥
IsUnreadable kind (Err error) = ⊥

-- limit: how many turns the client may make
abbrev pub Shows : ℕ → SeatOutcome → List Turn → List (List ℕ) → List (Result Served DeskError) →
    Type 0
Shows limit (seats.Ok messages identity) turns calls answers =
    AreServed turns calls answers × NewestAnswer (λ answer. answer ≡ Ok (Finished identity))
    answers × (messages ≡ length turns)
Shows limit (seats.Client error) turns calls answers = AreServedButLast turns calls answers
    × NewestIs Client (IsClientRefusal error.error_type) turns ×
    (error.error_type ≢ kinds.InsufficientMemory)
Shows limit (seats.Server error) turns calls answers = AreServed turns calls answers ×
    NewestAnswer (IsRefusedWith error) answers
Shows limit (seats.Read Client kind) turns calls answers = AreServed turns calls answers ×
    NewestAnswer (IsUnreadable kind) answers
Shows limit (seats.Read Server kind) turns calls answers =
    AreServed turns calls answers × NewestAnswer (λ answer. answer ≡ Err (Unread kind)) answers
Shows limit (seats.Write Client) turns calls answers =
    AreServedButLast turns calls answers × NewestIs Client GoesOn turns × NewestFits turns false
Shows limit (seats.Write Server) turns calls answers =
    AreServed turns calls answers × NewestAnswer (λ answer. answer ≡ Err TooLong) answers
Shows limit seats.TurnsSpent turns calls answers =
    AreServed turns calls answers × (length calls ≡ limit) × (request : TsRequest) ×
    IsNext answers request

-- the kinds of outcomes, as numbers; what an end cannot read or write has a kind of its own for
-- each end
abbrev pub kind_of : SeatOutcome → ℕ
kind_of (seats.Ok messages identity) = 0
kind_of (seats.Client error) = 1
kind_of (seats.Server error) = 2
kind_of (seats.Read Client kind) = 3
kind_of (seats.Read Server kind) = 4
kind_of (seats.Write Client) = 5
kind_of (seats.Write Server) = 6
kind_of seats.TurnsSpent = 7
