-- What one delivery does to its end.
use Rattle.std.specs.Prelude.{◌≡◌, ◌≢◌, ℕ, ◌⊎◌, List, [], ◌∷◌, None, Some, Result, Ok, Err, Bool}
use Rattle.std.specs.Prelude.{false}
use Rattle.sspi_types.specs.declared.error_kind.ErrorKind.{ErrorKind}
use Rattle.sspi_types.specs.declared.error_kind.ErrorKind.TheVariants as kinds
use Rattle.sspi_ber.specs.declared.wire_kind.WireKind.{WireKind}
use Rattle.sspi_ber.specs.declared.wire_kind.WireKind.TheVariants as wire
use Rattle.sspi_tsreq.specs.declared.request.TsRequest.{TsRequest}
use Rattle.sspi_mech.specs.Meaning.{Meaning}
use Rattle.sspi_credssp.specs.declared.turn.End.{End}
use Rattle.sspi_credssp.specs.declared.turn.End.TheVariants.{Client, Server}
use Rattle.sspi_credssp.specs.declared.turn.Outcome.{Outcome}
use Rattle.sspi_credssp.specs.declared.turn.Turn.{Turn}
use Rattle.sspi_credssp.specs.Context.{ContextSetting}
use Rattle.sspi_credssp.specs.Proxy.{ProxyMeaning}
use Rattle.sspi_credssp.specs.Ends.{ServerView}
use Rattle.sspi_delegate.specs.declared.answer.DelegateError.{DelegateError}
use Rattle.sspi_delegate.specs.declared.answer.DelegateError.TheVariants as errors
use Rattle.sspi_delegate.specs.Log.{IsClientRefusal, IsServerRefusal, IsFinished}
use Rattle.sspi_delegate.specs.Rounds.{newest_alone}
use Rattle.sspi_delegate.specs.Turns.{GoesOn, server_turns}
use Rattle.sspi_delegate.specs.History.{ServerHistory, ServerGave}
use Rattle.sspi_play.specs.declared.hand.Handed.{Handed}
use Rattle.sspi_play.specs.declared.hand.Handed.TheVariants as handed
use Rattle.sspi_play.specs.declared.hand.Standing.{Standing}
use Rattle.sspi_play.specs.declared.played.Delivery.{Delivery}
use Rattle.sspi_play.specs.declared.played.Ending.{Ending}
use Rattle.sspi_play.specs.declared.played.Ending.TheVariants.{Running, Refused, Unread}
use Rattle.sspi_play.specs.Plays.{any_for, unread_kind, ending_of, IsGiven, Plays, AllHadMemory}
use Rattle.sspi_play.specs.Plays.{OthersHadMemory, IsNoWant}

-- the request of a delivery, or why it has none
abbrev pub RequestIs : Bool → List ℕ → Result TsRequest WireKind → Type 0
RequestIs start bytes (Ok request) = IsGiven start bytes request × (unread_kind start bytes ≡ None)
RequestIs start bytes (Err wire.UnexpectedEof) = unread_kind start bytes ≡ Some wire.UnexpectedEof
RequestIs start bytes (Err wire.InvalidData) = unread_kind start bytes ≡ Some wire.InvalidData
RequestIs start bytes (Err wire.ReadFault) = ⊥
RequestIs start bytes (Err wire.WriteFault) = ⊥
RequestIs start bytes (Err wire.InsufficientMemory) = Unit {0}

-- the request of a delivery that made no turn
abbrev pub IsLeft : Bool → List ℕ → List Turn → List Turn → TsRequest → Type 0
IsLeft start bytes old new request = RequestIs start bytes (Ok request) × (new ≡ old)

-- an end that refused with this kind is `Refused`, but out of memory ends the play
abbrev pub EndsBy : ErrorKind → Result Ending DelegateError → Type 0
EndsBy kind (Ok ending) = (ending ≡ Refused kind) × (kind ≢ kinds.InsufficientMemory)
EndsBy kind (Err error) = (error ≡ errors.InsufficientMemory) × (kind ≡ kinds.InsufficientMemory)

-- one more turn: whose it is, what it was given, and how it ended
abbrev pub HasTurn : End → Bool → List ℕ → (Outcome → Type 0) → List Turn → List Turn → Type 0
HasTurn end start bytes P old [] = ⊥
HasTurn end start bytes P old (t ∷ past) = (past ≡ old) × (t.end ≡ end) ×
    IsGiven start bytes t.delivered × P t.outcome

-- a delivery made a turn with such an outcome
abbrev pub TurnsSo : End → Bool → List ℕ → (Outcome → Type 0) → List Turn → List Turn → Type 0
TurnsSo end start bytes P old new = (unread_kind start bytes ≡ None) ×
    HasTurn end start bytes P old new

abbrev pub EndsSo : End → (ErrorKind → Outcome → Type 0) → Bool → List ℕ → Ending → List Turn →
    List Turn → Type 0
EndsSo end IsRefusal start bytes Running old new = TurnsSo end start bytes GoesOn old new
EndsSo end IsRefusal start bytes (Refused kind) old new = (kind ≢ kinds.InsufficientMemory) ×
    TurnsSo end start bytes (IsRefusal kind) old new
EndsSo end IsRefusal start bytes (Unread kind) old new = (unread_kind start bytes ≡ Some kind) ×
    (new ≡ old)

-- out of memory: no turn was made, or the turn was refused with that kind
pub record LacksSo (end : End) (IsRefusal : ErrorKind → Outcome →
    Type 0) (start : Bool) (bytes : List ℕ) (error : DelegateError)
    (old new : List Turn) : Type 0 where
  pub error_is : error ≡ errors.InsufficientMemory
  pub turns : (new ≡ old) ⊎ TurnsSo end start bytes (IsRefusal kinds.InsufficientMemory) old new

abbrev pub ClientHands : Bool → List ℕ → Result Ending DelegateError → List Turn → List Turn →
    Type 0
ClientHands start bytes (Ok ending) old new =
    EndsSo Client IsClientRefusal start bytes ending old new
ClientHands start bytes (Err error) old new =
    LacksSo Client IsClientRefusal start bytes error old new

abbrev pub ServerHands : List ℕ → Result Handed DelegateError → List Turn → List Turn → Type 0
ServerHands bytes (Ok (handed.Stands ending)) old new =
    EndsSo Server IsServerRefusal false bytes ending old new
ServerHands bytes (Ok (handed.Finished identity)) old new =
    TurnsSo Server false bytes IsFinished old new
ServerHands bytes (Err error) old new = LacksSo Server IsServerRefusal false bytes error old new

-- the state of a play after these deliveries and turns
pub record Stands (deliveries : List Delivery) (turns : List Turn) (standing : Standing) : Type 0
  where
    pub plays : Plays deliveries turns
    pub memory : AllHadMemory turns
    pub begun : standing.begun ≡ any_for Client deliveries
    pub client : standing.played.client ≡ ending_of Client deliveries turns
    pub server : standing.played.server ≡ ending_of Server deliveries turns
    pub client_kind : IsNoWant standing.played.client
    pub server_kind : IsNoWant standing.played.server

-- this delivery ended the play with an error: it made a turn, or it made none
abbrev pub StopsAt : Delivery → List Delivery → List Turn → Type 0
StopsAt d past turns = (Plays past turns ⊎ Plays (d ∷ past) turns) × OthersHadMemory turns

module _ {C P : Type 0} (c : Meaning ContextSetting C) (p : ProxyMeaning P) where
  abbrev pub ServerHandPast : ServerView C P → Result Handed DelegateError → List Turn →
      ServerView C P → Type 0
  ServerHandPast first (Ok (handed.Stands ending)) turns now = ServerHistory c p first turns now
  ServerHandPast first (Ok (handed.Finished identity)) turns now =
      ServerGave c p first identity turns now
  ServerHandPast first (Err error) turns now = ServerHistory c p first turns now

  -- the turn that a delivery made leads from the old server to the new one; a delivery that is not
  -- a request leaves the server unchanged
  abbrev pub ServerHandMade : ServerView C P → Result Handed DelegateError → List Turn →
      ServerView C P → Type 0
  ServerHandMade old (Ok (handed.Stands Running)) turns now =
      ServerHistory c p old (server_turns (newest_alone turns)) now
  ServerHandMade old (Ok (handed.Stands (Refused kind))) turns now =
      ServerHistory c p old (server_turns (newest_alone turns)) now
  ServerHandMade old (Ok (handed.Stands (Unread kind))) turns now = now ≡ old
  ServerHandMade old (Ok (handed.Finished identity)) turns now = Unit {0}
  ServerHandMade old (Err error) turns now = Unit {0}
