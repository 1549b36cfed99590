-- What one call of `CredSspClient::process` or `resume` is, whatever it answers (MS-CSSP 3.1.5.1).
use Rattle.std.specs.Prelude.{◌≡◌, ◌<◌, ◌+◌, ℕ, List, [], ◌∷◌, None, Result, IsSome, IsErr, IfErr}
use Rattle.std.specs.Prelude.{OnErr, true, false}
use Rattle.sspi_types.specs.declared.error.Error.{Error}
use Rattle.sspi_types.specs.declared.error_kind.ErrorKind.TheVariants.{InvalidToken}
use Rattle.sspi_names.specs.declared.network.NetworkRequest.{NetworkRequest}
use Rattle.sspi_mech.specs.declared.step.Answer.TheVariants.{Ask}
use Rattle.sspi_mech.specs.declared.step.Reply.{Reply}
use Rattle.sspi_mech.specs.Meaning.{Meaning}
use Rattle.sspi_tsreq.specs.declared.request.TsRequest.{TsRequest}
use Rattle.sspi_credssp.specs.declared.client_state.Progress.{Progress}
use Rattle.sspi_credssp.specs.Acts.{no_acts, is_waiting_in, left_in}
use Rattle.sspi_credssp.specs.Ends.{ClientView}
use Rattle.sspi_credssp.specs.ClientCause.{ClientCause, ClientExact, ResumeCause, status_of}
use Rattle.sspi_credssp.specs.ClientTurn.{Asked, HasStepped, StepsTo, OnSuspended, ClientGoes}
use Rattle.sspi_credssp.specs.ClientTurn.{IsUnderway}
use Rattle.sspi_credssp.specs.Context.{ContextSetting}
use Rattle.sspi_credssp.specs.Noted.{ClientHeeds, is_altered_in}
use Rattle.sspi_credssp.specs.Requests.{is_code}

-- the call is refused, and only forgets what the last one did
abbrev pub OnlyForgets : {C : Type 0} → ClientView C → Result Progress Error → ClientView C → Type 0
OnlyForgets old result new = IsErr result × (new ≡ record old { acts = no_acts; output = [] })

module _ {C : Type 0} (c : Meaning ContextSetting C) where
  -- ---- what both calls share

  -- A turn on d that began at `start` is suspended at this question, after those of the log, newest
  -- first; `tries` refused resumes were tried again.
  pub record Awaits (start : ClientView C) (d : TsRequest) (tries : ℕ) (log : List Asked)
      (q : NetworkRequest) (now : ClientView C) :
      Type 0 where
    pub underway : IsUnderway c start d now
    pub walked : StepsTo c start d tries log (Ask q) now

  -- the step that such a turn takes of its context, and exactly when it is refused because the
  -- server's version is too old
  pub record ClientSteps (start : ClientView C) (d : TsRequest) (tries : ℕ) (log : List Asked)
      (result : Result Progress Error)
      (new : ClientView C) : Type 0 where
    pub step : HasStepped c start d tries log result new
    pub heeded : ClientHeeds c start d result new

  -- ---- process

  -- why it is refused; any NTSTATUS code is the server's own
  pub record ClientIsRefused (old : ClientView C) (d : TsRequest) (result : Result Progress Error)
      (new : ClientView C) : Type 0 where
    pub kind : IfErr result (λ error. ClientCause c old d new error.error_type)
    pub exact : IfErr result (λ error. ClientExact c old d new error.error_type)
    pub status : IfErr result (λ error. error.nstatus ≡ status_of c old d)

  -- What it leaves unchanged: a suspended turn keeps waiting; a server that reports an error or
  -- changes its version changes nothing, and neither does a call that leaves no context.
  pub record ClientKeeps (old : ClientView C) (d : TsRequest) (result : Result Progress Error)
      (new : ClientView C) : Type 0 where
    pub waited : is_waiting_in c old.context ≡ true → OnlyForgets old result new
    pub intruded : (start : ClientView C) (d : TsRequest) (tries : ℕ) (log : List Asked)
        (q : NetworkRequest) →
        Awaits start d tries log q old → Awaits start d tries log q new
    pub code : is_waiting_in c old.context ≡ false → is_code d.error_code ≡ true →
        OnlyForgets old result new × IfErr result (λ error. error.error_type ≡ InvalidToken)
    pub altered : is_waiting_in c old.context ≡ false → is_code d.error_code ≡ false →
        is_altered_in old.context old.noted d.version ≡ true → OnlyForgets old result new
    pub unmade : new.context ≡ None → new ≡ record old { acts = no_acts; output = [] }

  -- the call is one turn, or the beginning of one that is suspended
  pub record ClientCall (old : ClientView C) (d : TsRequest) (result : Result Progress Error)
      (new : ClientView C) : Type 0 where
    pub turn : ClientGoes c old d result new
    pub steps : ClientSteps old d 0 [] result new
    pub cause : ClientIsRefused old d result new
    pub kept : ClientKeeps old d result new

  -- ---- resume

  -- why it is refused, without an NTSTATUS code
  pub record ResumeIsRefused (old : ClientView C) (result : Result Progress Error)
      (new : ClientView C) : Type 0 where
    pub kind : IfErr result (λ error. ResumeCause c old new error.error_type)
    pub codeless : IfErr result (λ error. error.nstatus ≡ None)

  -- what it leaves unchanged: a refused turn keeps waiting if the context does, and without a
  -- suspended turn nothing changes
  pub record ResumeKeeps (old : ClientView C) (reply : Reply) (result : Result Progress Error)
      (new : ClientView C) : Type 0 where
    pub same : new.settings ≡ old.settings
    pub still : (start : ClientView C) (d : TsRequest) (tries : ℕ) (log : List Asked)
        (q : NetworkRequest) →
        Awaits start d tries log q old → OnErr result (new.acts.status ≡ None →
        is_waiting_in c new.context ≡ true →
        Awaits start d (tries + 1) (record { question = q; reply = reply } ∷ log) q new)
    pub idle : is_waiting_in c old.context ≡ false → OnlyForgets old result new
    -- the request is dropped if the context no longer waits
    pub dropped : is_waiting_in c old.context ≡ true → IsSome old.kept →
        OnErr result (is_waiting_in c new.context ≡ false → new.kept ≡ None)
    -- nothing changes either if the context waits without a suspended turn
    pub stray : is_waiting_in c old.context ≡ true → old.kept ≡ None → OnlyForgets old result new

  -- the call continues the suspended turn with a step of its context; another question leaves fewer
  -- to come
  pub record ResumeCall (old : ClientView C) (reply : Reply) (result : Result Progress Error)
      (new : ClientView C) : Type 0 where
    pub turn : (start : ClientView C) (d : TsRequest) → IsUnderway c start d old →
        ClientGoes c start d result new
    pub steps : (start : ClientView C) (d : TsRequest) (tries : ℕ) (log : List Asked)
        (q : NetworkRequest) →
        Awaits start d tries log q old →
        ClientSteps start d tries (record { question = q; reply = reply } ∷ log) result new
    pub stepped : is_waiting_in c old.context ≡ true → IsSome old.kept → new.acts.negotiated ≡ true
    pub falls : OnSuspended result (left_in c new.context < left_in c old.context)
    pub cause : ResumeIsRefused old result new
    pub kept : ResumeKeeps old reply result new
