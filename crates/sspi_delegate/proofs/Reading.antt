-- Reading the newest delivery of a log, piece by piece.
use Rattle.std.proofs.Common.{◌≡◌, ℕ, ◌⊎◌, inl, inr, List, [], ◌∷◌, false, Option, None, Some, Result, Ok, Err, OnErr, ◌∙◌, sym, subst}
use Rattle.std.proofs.Common.{refl, length}
use Rattle.sspi_types.specs.declared.error.Error.{Error}
use Rattle.sspi_types.specs.declared.error_kind.ErrorKind.{ErrorKind}
use Rattle.sspi_types.specs.declared.error_kind.ErrorKind.TheVariants as kinds
use Rattle.sspi_types.specs.Counting.{Counts}
use Rattle.sspi_credssp.specs.declared.turn.End.TheVariants as ends
use Rattle.sspi_credssp.specs.declared.turn.Turn.{Turn}
use Rattle.sspi_delegate.specs.declared.carried.Carried.{Carried}
use Rattle.sspi_delegate.specs.declared.answer.DelegateError.{DelegateError}
use Rattle.sspi_delegate.specs.declared.answer.DelegateError.TheVariants as errors
use Rattle.sspi_delegate.specs.declared.edit.Edit.{Edit}
use Rattle.sspi_delegate.specs.Log.{NewestIs, IsServerRefusal}
use Rattle.sspi_delegate.specs.Link.{StaysTold, newest_message, CarryFails, HasFailed, HasFailedToTell, AnswerTold}
use Rattle.sspi_delegate.specs.Halves.{IsAnswerTo}
use Rattle.sspi_delegate.specs.Sending.{GiveTold, RequestTold}
use Rattle.sspi_delegate.proofs.LogSteps.{refused_as}
use Rattle.sspi_tsreq.specs.declared.reader.TsReader.{TsReader}
use Rattle.sspi_tsreq.specs.declared.request.TsRequest.{TsRequest}
use Rattle.sspi_tsreq.specs.Feeding.{Stands}

-- this text was read of the newest delivery, which has not ended
abbrev pub IsSoFar : List Carried → List Carried → List ℕ → Type 0
IsSoFar [] now text = ⊥
IsSoFar (e ∷ log) now text = now ≡ record e { delivered = text; ended = false } ∷ log

-- `taken` bytes were read of the newest delivery, which has not ended, and fed to the reader
pub record IsFedSoFar (old now : List Carried) (reader : TsReader) (taken : ℕ) : Type 0 where
  pub text : List ℕ
  pub so_far : IsSoFar old now text
  pub stands : Stands reader text
  pub counted : length text ≡ taken

-- if the edits are exposed, no fault was counted
abbrev pub IsStill : Option (List Edit) → ℕ → ℕ → Type 0
IsStill None before now = Unit {0}
IsStill (Some edits) before now = now ≡ before

pub stays_on : (a b c : Option (List Edit)) (l m n : List Carried) → StaysTold a b l m → StaysTold b c m n → StaysTold a c l n
stays_on a b c l m n first then = record { same = then.same ∙ first.same; follows = λ h. then.follows (first.follows h) }

-- no fault was counted so far, nor in a call that was answered
pub still_on : {X : Type 0} (edits edits2 : Option (List Edit)) (start before now : ℕ) (x : X) (log : List Carried)
    (turns : List Turn) →
    edits2 ≡ edits → IsStill edits start before → AnswerTold {X = X} edits2 before now (Ok x) log turns → IsStill edits start now
still_on edits edits2 start before now x log turns same still told =
    still_step edits start before now x log turns still (subst
    (λ (e : Option (List Edit)). AnswerTold e before now (Ok x) log turns) same told)
  where
    still_step : {X : Type 0} (edits : Option (List Edit)) (start before now : ℕ) (x : X) (log : List Carried)
        (turns : List Turn) →
        IsStill edits start before → AnswerTold {X = X} edits before now (Ok x) log turns → IsStill edits start now
    still_step None start before now x log turns still told = tt
    still_step (Some edits) start before now x log turns still told = told ∙ still

pub still_spent : (X : Type 0) (edits : Option (List Edit)) (start now : ℕ) (log : List Carried) (turns : List Turn) →
    IsStill edits start now → AnswerTold {X = X} edits start now (Err errors.TurnsSpent) log turns
still_spent X None start now log turns still = tt
still_spent X (Some edits) start now log turns still = still

pub still_first : (edits : Option (List Edit)) (now : ℕ) → IsStill edits now now
still_first None now = tt
still_first (Some edits) now = refl

failed_from : (edits : List Edit) (start before now : ℕ) (log : List Carried) (turns : List Turn) → before ≡ start →
    HasFailed edits before now log turns → HasFailed edits start now log turns
failed_from edits start before now log turns still fails = (fails.0, subst (λ (n : ℕ). Counts n now) still fails.1)

later : (kind : ErrorKind) (edits : List Edit) (start before now : ℕ) (log : List Carried) (turns : List Turn) → before ≡ start →
    (now ≡ before) ⊎ HasFailedToTell kind edits before now log turns → (now ≡ start) ⊎ HasFailedToTell kind edits start now log turns
later kind edits start before now log turns still (inl told) = inl (told ∙ still)
later kind edits start before now log turns still (inr fails) =
    inr (fails.0, failed_from edits start before now log turns still fails.1)

stopped_told : (X Y : Type 0) (edits : Option (List Edit)) (start before now : ℕ) (error : DelegateError) (log : List Carried)
    (turns : List Turn) →
    IsStill edits start before → AnswerTold {X = X} edits before now (Err error) log turns →
    AnswerTold {X = Y} edits start now (Err error) log turns
stopped_told X Y None start before now error log turns still told = tt
stopped_told X Y (Some edits) start before now (errors.Client error) log turns still told = told ∙ still
stopped_told X Y (Some edits) start before now (errors.Server error) log turns still told =
    later error.error_type edits start before now log turns still told
stopped_told X Y (Some edits) start before now (errors.Read end kind) log turns still told = told ∙ still
stopped_told X Y (Some edits) start before now (errors.Write end) log turns still told = told ∙ still
stopped_told X Y (Some edits) start before now errors.LinkFault log turns still told =
    failed_from edits start before now log turns still told
stopped_told X Y (Some edits) start before now errors.TurnsSpent log turns still told = told ∙ still
stopped_told X Y (Some edits) start before now errors.InsufficientMemory log turns still told =
    later kinds.InsufficientMemory edits start before now log turns still told

-- an error after calls that were answered
pub still_stopped : (X Y : Type 0) (edits edits2 : Option (List Edit)) (start before now : ℕ) (error : DelegateError) (log : List Carried)
    (turns : List Turn) → edits2 ≡ edits → IsStill edits start before →
    AnswerTold {X = X} edits2 before now (Err error) log turns →
    AnswerTold {X = Y} edits start now (Err error) log turns
still_stopped X Y edits edits2 start before now error log turns same still told =
    stopped_told X Y edits start before now error log turns still
    (subst (λ (e : Option (List Edit)). AnswerTold {X = X} e before now (Err error) log turns) same told)

given_told : (edits : List Edit) (before now : ℕ) (given : Result (Unit {0}) DelegateError) (log log2 : List Carried)
    (message : Option TsRequest) →
    GiveTold (Some edits) log message before now given → OnErr given (log2 ≡ log) →
    (now ≡ before) ⊎ (CarryFails edits log2 message × Counts before now)
given_told edits before now given log log2 None told kept = inl told
given_told edits before now (Ok done) log log2 (Some message) told kept = inl told
given_told edits before now (Err (errors.Client error)) log log2 (Some message) told kept = inl told
given_told edits before now (Err (errors.Server error)) log log2 (Some message) told kept = inl told
given_told edits before now (Err (errors.Read end kind)) log log2 (Some message) told kept = inl told
given_told edits before now (Err (errors.Write end)) log log2 (Some message) told kept = inl told
given_told edits before now (Err errors.LinkFault) log log2 (Some message) told kept =
    inr (subst (λ (entries : List Carried). CarryFails edits entries (Some message)) (sym kept) told.0, told.1)
given_told edits before now (Err errors.TurnsSpent) log log2 (Some message) told kept = inl told
given_told edits before now (Err errors.InsufficientMemory) log log2 (Some message) told kept = inl told

to_tell : (kind : ErrorKind) (edits : List Edit) (before now : ℕ) (log : List Carried) (turns : List Turn) →
    NewestIs ends.Server (IsServerRefusal kind) turns → (now ≡ before) ⊎ HasFailed edits before now log turns →
    (now ≡ before) ⊎ HasFailedToTell kind edits before now log turns
to_tell kind edits before now log turns newest (inl told) = inl told
to_tell kind edits before now log turns newest (inr fails) = inr (newest, fails)

refusal_still : (X : Type 0) (edits : Option (List Edit)) (start before now : ℕ) (given : Result (Unit {0}) DelegateError) (error : Error)
    (answer : DelegateError) (log log2 : List Carried) (turns : List Turn) → IsStill edits start before →
    GiveTold edits log (newest_message turns) before now given → OnErr given (log2 ≡ log) →
    NewestIs ends.Server (IsServerRefusal error.error_type) turns → IsAnswerTo error.error_type (errors.Server error) answer →
    AnswerTold {X = X} edits start now (Err answer) log2 turns
refusal_still X None start before now given error answer log log2 turns still told kept newest is = tt
refusal_still X (Some edits) start before now given error answer log log2 turns still told kept newest (inl memory) =
    rw memory.1 (later kinds.InsufficientMemory edits start before now log2 turns still
    (to_tell kinds.InsufficientMemory edits before now log2 turns
    (refused_as ends.Server IsServerRefusal error.error_type kinds.InsufficientMemory turns memory.0 newest)
    (given_told edits before now given log log2 (newest_message turns) told kept)))
refusal_still X (Some edits) start before now given error answer log log2 turns still told kept newest (inr refusal) =
    rw refusal.1 (later error.error_type edits start before now log2 turns still
    (to_tell error.error_type edits before now log2 turns newest
    (given_told edits before now given log log2 (newest_message turns) told kept)))

-- a refusing server, whose message was given to the link
pub refused_still : (X : Type 0) (edits edits2 : Option (List Edit)) (start before now : ℕ) (given : Result (Unit {0}) DelegateError)
    (error : Error) (answer : DelegateError) (log log2 : List Carried) (turns : List Turn) → edits2 ≡ edits →
    IsStill edits start before → GiveTold edits2 log (newest_message turns) before now given → OnErr given (log2 ≡ log) →
    NewestIs ends.Server (IsServerRefusal error.error_type) turns → IsAnswerTo error.error_type (errors.Server error) answer →
    AnswerTold {X = X} edits start now (Err answer) log2 turns
refused_still X edits edits2 start before now given error answer log log2 turns same still told kept newest is =
    refusal_still X edits start before now given error answer log log2 turns still
    (subst (λ (e : Option (List Edit)). GiveTold e log (newest_message turns) before now given) same told) kept newest is

pub read_still : {X : Type 0} (edits : Option (List Edit)) (before now : ℕ) (x : X) → RequestTold edits before now (Ok x) →
    IsStill edits before now
read_still None before now x told = tt
read_still (Some edits) before now x told = told
