-- How a guest's bytes are heard.
use Rattle.std.specs.Prelude.{◌≡◌, ◌≢◌, ℕ, List, [], ◌∷◌, reverse, Option, None, Some, Result, Ok}
use Rattle.std.specs.Prelude.{Err}
use Rattle.sspi_types.specs.declared.error.Error.{Error}
use Rattle.sspi_types.specs.declared.error_kind.ErrorKind.TheVariants as kinds
use Rattle.sspi_tsreq.specs.declared.request.TsRequest.{TsRequest}
use Rattle.sspi_mech.specs.Meaning.{Meaning}
use Rattle.sspi_credssp.specs.declared.context.SspiContext.{SspiContext}
use Rattle.sspi_credssp.specs.declared.turn.End.TheVariants.{Client, Server}
use Rattle.sspi_credssp.specs.declared.turn.Turn.{Turn}
use Rattle.sspi_credssp.specs.Context.{ContextSetting}
use Rattle.sspi_credssp.specs.Proxy.{ProxyMeaning}
use Rattle.sspi_credssp.specs.Ends.{ServerView}
use Rattle.sspi_credssp.specs.Turn.{message_of}
use Rattle.sspi_delegate.specs.Chain.{KdcCalls}
use Rattle.sspi_delegate.specs.Log.{IsRead}
use Rattle.sspi_desk.specs.Call.{HasFault, HasNoRoom, Spells}
use Rattle.sspi_desk.specs.declared.answer.DeskError.{DeskError}
use Rattle.sspi_desk.specs.declared.answer.DeskError.TheVariants.{NoSession, Unread, Refused}
use Rattle.sspi_desk.specs.declared.answer.DeskError.TheVariants.{TooLong, InsufficientMemory}
use Rattle.sspi_desk.specs.declared.answer.Served.{Served}
use Rattle.sspi_desk.specs.declared.answer.Served.TheVariants.{Answer, Finished}
use Rattle.sspi_seats.specs.Seat.{Place}
use Rattle.sspi_seats.specs.declared.guest.Guest.{Guest}
use Rattle.sspi_seats.specs.declared.hearing.Heard.{Heard}
use Rattle.sspi_seats.specs.declared.hearing.Heard.TheVariants.{Next, Ends}
use Rattle.sspi_seats.specs.declared.seat.Seat.{Seat}
use Rattle.sspi_seats.specs.declared.seat.SeatOutcome.{SeatOutcome}
use Rattle.sspi_seats.specs.declared.seat.SeatOutcome.TheVariants as seats
use Rattle.sspi_seats.specs.Guest.{HasTurned}
use Rattle.sspi_seats.specs.Messages.{AreServedButLast}

-- the newest turn's message, encoded, unless it is too long or there is none
abbrev pub SpeaksAs : {E : Type 0} → Option TsRequest → Result (Option (List ℕ)) E → Type 0
SpeaksAs None said = said ≡ Ok None
SpeaksAs (Some message) said = Spells message said

abbrev pub Speaks : {E : Type 0} → List Turn → Result (Option (List ℕ)) E → Type 0
Speaks [] said = said ≡ Ok None
Speaks (t ∷ past) said = SpeaksAs (message_of t.outcome) said

-- the bytes of a server's message: the client's next request, or not a request
abbrev pub IsReadAs : List ℕ → Heard → Type 0
IsReadAs text (Next request) = IsRead text request
IsReadAs text (Ends (seats.Read Client kind)) = HasFault text kind
IsReadAs text (Ends other) = ⊥

-- what an answer means for a client that has made this many turns
abbrev pub IsHeard : ℕ → Result Served DeskError → Heard → Type 0
IsHeard turns (Ok (Answer text)) heard = IsReadAs text heard
IsHeard turns (Ok (Finished identity)) heard = heard ≡ Ends (seats.Ok turns identity)
IsHeard turns (Err NoSession) heard = ⊥
IsHeard turns (Err (Unread kind)) heard = heard ≡ Ends (seats.Read Server kind)
IsHeard turns (Err (Refused error text)) heard = heard ≡ Ends (seats.Server error)
IsHeard turns (Err TooLong) heard = heard ≡ Ends (seats.Write Server)
IsHeard turns (Err InsufficientMemory) heard = ⊥

-- Memory may run out for what an answer means, or it ran out for the answer. The bytes of a message
-- are then a request, with OCTET STRINGs to copy.
abbrev pub MayLack : Result Served DeskError → Type 0
MayLack (Ok (Answer text)) = HasNoRoom text
MayLack (Ok (Finished identity)) = Unit {0}
MayLack (Err NoSession) = Unit {0}
MayLack (Err (Unread kind)) = ⊥
MayLack (Err (Refused error text)) = ⊥
MayLack (Err TooLong) = ⊥
MayLack (Err InsufficientMemory) = Unit {0}

abbrev pub IsRefusal : Error → SeatOutcome → Type 0
IsRefusal error outcome = (outcome ≡ seats.Client error) ×
    (error.error_type ≢ kinds.InsufficientMemory)

module _ {N K D : Type 0} where
  -- the seat of a client and its server
  pub record IsSeatOf {P : Type 0} (guest : Guest N K D) (server : ServerView (SspiContext N K) P)
      (seat : Seat N K P D) : Type 0 where
    pub client_is : seat.client ≡ guest.client
    pub kdc_is : seat.kdc ≡ guest.kdc
    pub server_is : seat.server ≡ server
    pub turns : seat.turns ≡ reverse guest.transcript.turns
    pub calls : seat.calls ≡ guest.calls
    pub answers : seat.answers ≡ guest.answers
    pub outcome : seat.outcome ≡ guest.outcome

module _ {N K P D : Type 0} (c : Meaning ContextSetting (SspiContext N K)) (p : ProxyMeaning P)
    (k : KdcCalls D)
    (came : Place (SspiContext N K) P D) where
  -- a client whose newest turn has a message that has not been served
  pub record IsSpeaking (rounds : ℕ) (guest : Guest N K D) : Type 0 where
    pub turned : HasTurned c p k came rounds guest
    pub served : AreServedButLast guest.transcript.turns (reverse guest.calls)
        (reverse guest.answers)
