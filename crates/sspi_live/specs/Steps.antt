-- What one turn over a channel promises the loop around it.
use Rattle.std.specs.Prelude.{◌≡◌, ◌⊎◌, ℕ, Bool, true, false, List, [], ◌∷◌, Option, None, Some}
use Rattle.std.specs.Prelude.{Result, Ok, Err}
use Rattle.std.specs.Io.KnownBytes.{Keeps}
use Rattle.sspi_types.specs.declared.error.Error.{Error}
use Rattle.sspi_names.specs.declared.identity.AuthIdentity.{AuthIdentity}
use Rattle.sspi_mech.specs.Meaning.{Meaning}
use Rattle.sspi_tsreq.specs.declared.request.TsRequest.{TsRequest}
use Rattle.sspi_credssp.specs.declared.turn.End.{End}
use Rattle.sspi_credssp.specs.declared.turn.End.TheVariants.{Client, Server}
use Rattle.sspi_credssp.specs.declared.turn.Turn.{Turn}
use Rattle.sspi_credssp.specs.Context.{ContextSetting}
use Rattle.sspi_credssp.specs.Ends.{ClientView}
use Rattle.sspi_delegate.specs.declared.answer.DelegateError.{DelegateError}
use Rattle.sspi_delegate.specs.declared.answer.DelegateError.TheVariants as errors
use Rattle.sspi_delegate.specs.Chain.{KdcCalls}
use Rattle.sspi_delegate.specs.Halves.{ClientHalfStops, IsAnswerTo}
use Rattle.sspi_delegate.specs.History.{ClientHistory}
use Rattle.sspi_delegate.specs.Log.{NewestIs, IsFinished}
use Rattle.sspi_delegate.specs.Turns.{is_ended}
use Rattle.sspi_live.specs.Answers.{HadMemory, IsDelegated, IsOwn, IsTurned, SoFar, Stops}
use Rattle.sspi_live.specs.Channel.{Channel}
use Rattle.sspi_live.specs.Reading.{Reads}
use Rattle.sspi_live.specs.Writing.{Writes}

-- an end's refusal as an answer
abbrev pub refusal_by : End → Error → DelegateError
refusal_by Client error = errors.Client error
refusal_by Server error = errors.Server error

-- The answer to a server's refusal, by the result of informing its client: if memory ran out for
-- that, it is out of memory.
abbrev pub AnswersTold : Error → Result (Unit {0}) DelegateError → DelegateError → Type 0
AnswersTold error told answer = ((told ≡ Err errors.InsufficientMemory) ×
    (answer ≡ errors.InsufficientMemory))
    ⊎ (HadMemory told × IsAnswerTo error.error_type (errors.Server error) answer)

-- the newest turn made the last message of a delegation
abbrev pub newest_is_last : List Turn → Bool
newest_is_last [] = false
newest_is_last (t ∷ past) = is_ended t.outcome

-- what is read for a turn after these, unless the request is the client's own
abbrev pub ReadsDue : End → List Turn → Option (List ℕ) → Option (List ℕ) → ℕ → ℕ →
    Result TsRequest DelegateError → Type 0
ReadsDue Client [] left rest before now (Ok d) = IsOwn Client [] d × Keeps left rest ×
    (now ≡ before)
ReadsDue Client [] left rest before now (Err error) = ⊥
ReadsDue Client (t ∷ past) left rest before now result = Reads Client left rest before now result
ReadsDue Server past left rest before now result = Reads Server left rest before now result

-- what becomes of the newest turn's message, if it has one
abbrev pub WritesNewest : End → Option TsRequest → Option (List ℕ) → Option (List ℕ) → ℕ → ℕ →
    Result (Unit {0}) DelegateError → Type 0
WritesNewest from None old new before now (Ok done) = Keeps old new × (now ≡ before)
WritesNewest from None old new before now (Err error) = ⊥
WritesNewest from (Some m) old new before now result = Writes from m old new before now result

abbrev pub ServeStep : ℕ → Channel → Channel → Result (Option AuthIdentity) DelegateError →
    List Turn → Type 0
ServeStep limit first now (Ok None) turns = SoFar Server turns first now
ServeStep limit first now (Ok (Some identity)) turns = NewestIs Server IsFinished turns ×
    IsTurned Server turns first now
ServeStep limit first now (Err error) turns = Stops Server limit error turns first now

abbrev pub ConnectStep : ℕ → Channel → Channel → Result Bool DelegateError → List Turn → Type 0
ConnectStep limit first now (Ok false) turns = SoFar Client turns first now
ConnectStep limit first now (Ok true) turns = IsDelegated turns first now
ConnectStep limit first now (Err error) turns = Stops Client limit error turns first now

module _ {C D : Type 0} (c : Meaning ContextSetting C) (k : KdcCalls D) (due : TsRequest →
    Type 0) (first : ClientView C) (kdc : D) where
  abbrev pub ConnectStepPast : Result Bool DelegateError → List Turn → ClientView C → D → Type 0
  ConnectStepPast (Ok last) turns now kdc2 = ClientHistory c k first kdc turns now kdc2
  ConnectStepPast (Err error) turns now kdc2 =
      ClientHalfStops c k due first kdc error turns now kdc2
