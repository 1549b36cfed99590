-- When each answer of an end over a channel comes, and what the channel has carried then. The turns
-- are those of this end, the newest first; `before` is the channel before the first of them.
use Rattle.std.specs.Prelude.{◌≡◌, ◌≢◌, ℕ, ◌<◌, ◌⊎◌, true, false, List, [], ◌∷◌, ◌++◌, length, Some}
use Rattle.std.specs.Prelude.{Result, Ok, Err}
use Rattle.std.specs.Io.KnownBytes.{Keeps}
use Rattle.sspi_types.specs.declared.error_kind.ErrorKind.{ErrorKind}
use Rattle.sspi_types.specs.declared.error_kind.ErrorKind.TheVariants as kinds
use Rattle.sspi_tsreq.specs.declared.request.TsRequest.{TsRequest}
use Rattle.sspi_tsreq.specs.Grammar.{first_request}
use Rattle.sspi_credssp.specs.declared.turn.End.{End}
use Rattle.sspi_credssp.specs.declared.turn.End.TheVariants.{Client, Server}
use Rattle.sspi_credssp.specs.declared.turn.Outcome.{Outcome}
use Rattle.sspi_credssp.specs.declared.turn.Turn.{Turn}
use Rattle.sspi_delegate.specs.declared.answer.Delegation.{Delegation}
use Rattle.sspi_delegate.specs.declared.answer.DelegateError.{DelegateError}
use Rattle.sspi_delegate.specs.declared.answer.DelegateError.TheVariants as errors
use Rattle.sspi_delegate.specs.Link.{newest_message}
use Rattle.sspi_delegate.specs.Log.{NewestIs, IsClientRefusal, IsServerRefusal, IsFinished}
use Rattle.sspi_delegate.specs.Turns.{AllGoOn, OthersGoOn, any_ended, is_ended}
use Rattle.sspi_live.specs.Channel.{Carries, Channel}
use Rattle.sspi_live.specs.Reading.{Reads}
use Rattle.sspi_live.specs.Sides.{earlier, messages_in, read_for, received_by}
use Rattle.sspi_live.specs.Writing.{Writes}

-- the last message of a delegation, which has the credentials
abbrev pub IsLast : Outcome → Type 0
IsLast outcome = is_ended outcome ≡ true

-- a client stops after its last message, so none of these turns made one
abbrev pub GoesOnBehind : End → List Turn → Type 0
GoesOnBehind end turns = end ≡ Client → any_ended turns ≡ false

-- ---- how far the channel has got

-- Each turn went on and its message was written, and no turn ended the exchange.
pub record SoFar (end : End) (turns : List Turn) (before now : Channel) : Type 0 where
  pub going : AllGoOn turns
  pub unended : GoesOnBehind end turns
  pub carried : Carries before now (received_by end turns) (messages_in turns)

-- The same for all turns but the newest, whose request was read.
pub record IsTurned (end : End) (turns : List Turn) (before now : Channel) : Type 0 where
  pub going : OthersGoOn turns
  pub unended : GoesOnBehind end (earlier turns)
  pub carried : Carries before now (received_by end turns) (messages_in (earlier turns))

-- the request of a client's first turn is its own
abbrev pub IsOwn : End → List Turn → TsRequest → Type 0
IsOwn Client [] d = d ≡ first_request
IsOwn Client (t ∷ past) d = Unit {0}
IsOwn Server past d = Unit {0}

-- The next turn is due on this request, which was read.
pub record IsDue (end : End) (turns : List Turn) (before now : Channel) (d : TsRequest) : Type 0
  where
    pub going : AllGoOn turns
    pub unended : GoesOnBehind end turns
    pub own : IsOwn end turns d
    pub carried : Carries before now (received_by end turns ++ read_for end turns d)
        (messages_in turns)

-- ---- why an end stops

-- A request is to be read for the next turn, and none was, for this reason. Nothing is written
-- then.
pub record FailsToRead (end : End) (limit : ℕ) (error : DelegateError) (turns : List Turn)
    (before after : Channel) : Type 0 where
  pub now : Channel
  pub so_far : SoFar end turns before now
  pub within : length turns < limit
  pub due : (d : TsRequest) → read_for end turns d ≡ d ∷ []
  pub reads : Reads end now.left after.left now.read_faults after.read_faults (Err error)
  pub written : Keeps now.written after.written
  pub writing : after.write_faults ≡ now.write_faults

-- Writing the newest turn's message had this result. Nothing is read then.
pub record WritesMessage (end : End) (turns : List Turn) (before after : Channel)
    (result : Result (Unit {0}) DelegateError) : Type 0 where
  pub now : Channel
  pub turned : IsTurned end turns before now
  pub message : TsRequest
  pub newest : newest_message turns ≡ Some message
  pub writes : Writes end message now.written after.written now.write_faults after.write_faults
      result
  pub left : Keeps now.left after.left
  pub reading : after.read_faults ≡ now.read_faults

-- The newest turn went on, and its message was not written, for this reason.
abbrev pub FailsToWrite : End → DelegateError → List Turn → Channel → Channel → Type 0
FailsToWrite end error turns before after = AllGoOn turns ×
    WritesMessage end turns before after (Err error)

-- informing a client did not run out of memory
abbrev pub HadMemory : Result (Unit {0}) DelegateError → Type 0
HadMemory (Ok done) = Unit {0}
HadMemory (Err errors.InsufficientMemory) = ⊥
HadMemory (Err error) = Unit {0}

-- The newest turn was refused with this kind. A server's message on it was written whole, or does
-- not fit, or the sink failed and its count of faults rose. A client informs no one.
abbrev pub Refuses : End → ErrorKind → List Turn → Channel → Channel → Type 0
Refuses Client kind turns before after = NewestIs Client (IsClientRefusal kind) turns ×
    IsTurned Client turns before after
Refuses Server kind turns before after = NewestIs Server (IsServerRefusal kind) turns
    × (result : Result (Unit {0}) DelegateError) × HadMemory result ×
    WritesMessage Server turns before after result

-- a server refused its newest turn with this kind, and memory ran out for the message that informs
-- its client
abbrev pub RefusesUntold : End → ErrorKind → List Turn → Channel → Channel → Type 0
RefusesUntold Client kind turns before after = ⊥
RefusesUntold Server kind turns before after =
    NewestIs Server (IsServerRefusal kind) turns ×
    WritesMessage Server turns before after (Err errors.InsufficientMemory)

-- where memory ran out
pub data Lacks (end : End) (limit : ℕ) (turns : List Turn) (before after : Channel) : Type 0 where
  for_a_request : FailsToRead end limit errors.InsufficientMemory turns before after →
      Lacks end limit turns before after
  for_a_turn : (d : TsRequest) → length turns < limit → IsDue end turns before after d →
      Lacks end limit turns before after
  for_a_message : FailsToWrite end errors.InsufficientMemory turns before after →
      Lacks end limit turns before after
  of_the_end : Refuses end kinds.InsufficientMemory turns before after →
      Lacks end limit turns before after
  for_a_refusal : (kind : ErrorKind) → RefusesUntold end kind turns before after →
      Lacks end limit turns before after

-- what each error shows; limit: how many turns this end may make
abbrev pub Stops : End → ℕ → DelegateError → List Turn → Channel → Channel → Type 0
Stops end limit (errors.Client error) turns before after =
    (end ≡ Client) × (error.error_type ≢ kinds.InsufficientMemory) ×
    Refuses Client error.error_type turns before after
Stops end limit (errors.Server error) turns before after =
    (end ≡ Server) × (error.error_type ≢ kinds.InsufficientMemory) ×
    Refuses Server error.error_type turns before after
Stops end limit (errors.Read to kind) turns before after =
    FailsToRead end limit (errors.Read to kind) turns before after
Stops end limit (errors.Write from) turns before after =
    FailsToWrite end (errors.Write from) turns before after
Stops end limit errors.LinkFault turns before after =
    FailsToRead end limit errors.LinkFault turns before after ⊎
    FailsToWrite end errors.LinkFault turns before after
Stops end limit errors.TurnsSpent turns before after = (length turns ≡ limit) ×
    SoFar end turns before after
Stops end limit errors.InsufficientMemory turns before after = Lacks end limit turns before after

-- ---- the answers

-- a server: nothing is written for the turn that opened the credentials
abbrev pub Serves : ℕ → Channel → Channel → Result Delegation DelegateError → List Turn → Type 0
Serves limit before after (Ok delegation) turns =
    (delegation.rounds ≡ length turns) × NewestIs Server IsFinished turns ×
    IsTurned Server turns before after
Serves limit before after (Err error) turns = Stops Server limit error turns before after

-- The last message was written, after those of all turns before.
pub record IsDelegated (turns : List Turn) (before after : Channel) : Type 0 where
  pub newest : NewestIs Client IsLast turns
  pub going : AllGoOn turns
  pub unended : GoesOnBehind Client (earlier turns)
  pub carried : Carries before after (received_by Client turns) (messages_in turns)

-- a client, which answers the number of its turns
abbrev pub Connects : ℕ → Channel → Channel → Result ℕ DelegateError → List Turn → Type 0
Connects limit before after (Ok rounds) turns = (rounds ≡ length turns) ×
    IsDelegated turns before after
Connects limit before after (Err error) turns = Stops Client limit error turns before after
