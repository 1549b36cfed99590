-- The causes of refusals, put together from those of the calls inside.
use Rattle.std.proofs.Common.{◌≡◌, ℕ, Option, None, Some, IsSome, Result, Ok, Err, IfErr, Bool, true, false, subst}
use Rattle.sspi_types.specs.declared.credential_use.CredentialUse.TheVariants.{Outbound}
use Rattle.sspi_types.specs.declared.error.Error.{Error}
use Rattle.sspi_types.specs.declared.error_kind.ErrorKind.{ErrorKind}
use Rattle.sspi_types.specs.declared.error_kind.ErrorKind.TheVariants.{MessageAltered, DowngradeDetected}
use Rattle.sspi_tsreq.specs.declared.request.TsRequest.{TsRequest}
use Rattle.sspi_mech.specs.Meaning.{Meaning}
use Rattle.sspi_credssp.specs.declared.state.CredSspState.{CredSspState}
use Rattle.sspi_credssp.specs.declared.state.CredSspState.TheVariants.{NegoToken, PubKeyInfo, AuthInfo, Final}
use Rattle.sspi_credssp.specs.Context.{BeginCause, MadeOr, ContextSetting, ForClient}
use Rattle.sspi_credssp.specs.Ends.{ClientView}
use Rattle.sspi_credssp.specs.ClientCause.{ClientCause, ClientExact, StateCause, StateExact}
use Rattle.sspi_credssp.specs.Acts.{is_waiting_in}
use Rattle.sspi_credssp.specs.Noted.{is_altered_in, is_old_in, StopsIf, VersionStopsIn, OrMemory}
use Rattle.sspi_credssp.specs.Requests.{is_code}

pub stops_map : (b : Bool) (here kind : ErrorKind) (Later Later2 : Type 0) → (Later → Later2) → StopsIf b here kind Later →
    StopsIf b here kind Later2
stops_map true here kind Later Later2 f h = h
stops_map false here kind Later Later2 f h = f h

pub made_map : {C : Type 0} (old new : Option C) (Cause Later Later2 : Type 0) → (Later → Later2) → MadeOr old new Cause Later →
    MadeOr old new Cause Later2
made_map (Some m) new Cause Later Later2 f h = f h
made_map None (Some m) Cause Later Later2 f h = f h
made_map None None Cause Later Later2 f h = h

pub made_by : {C : Type 0} (old new : Option C) (Cause Cause2 Later Later2 : Type 0) → (Cause → Cause2) → (Later → Later2) →
    MadeOr old new Cause Later → MadeOr old new Cause2 Later2
made_by (Some m) new Cause Cause2 Later Later2 g f h = f h
made_by None (Some m) Cause Cause2 Later Later2 g f h = f h
made_by None None Cause Cause2 Later Later2 g f h = g h

pub made_later : {C : Type 0} (old new : Option C) (Cause Later : Type 0) → IsSome new → Later → MadeOr old new Cause Later
made_later (Some m) new Cause Later some h = h
made_later None (Some m) Cause Later some h = h
made_later None None Cause Later some h = cc

module _ {C : Type 0} (c : Meaning ContextSetting C) where
  -- what a turn checks after the version check does not depend on the version
  state_cause_same : (state : CredSspState) (d : TsRequest) (v : ℕ) (new : ClientView C) (kind : ErrorKind) →
      StateCause c state (record d { version = v }) new kind → StateCause c state d new kind
  state_cause_same NegoToken d v new kind h = h
  state_cause_same PubKeyInfo d v new kind h = h
  state_cause_same AuthInfo d v new kind h = h
  state_cause_same Final d v new kind h = h

  state_exact_same : (state : CredSspState) (d : TsRequest) (v : ℕ) (new : ClientView C) (kind : ErrorKind) →
      StateExact c state (record d { version = v }) new kind → StateExact c state d new kind
  state_exact_same NegoToken d v new kind h = h
  state_exact_same PubKeyInfo d v new kind h = h
  state_exact_same AuthInfo d v new kind h = h
  state_exact_same Final d v new kind h = h

  -- a turn that was refused after the version check
  pub client_cause_past : {T : Type 0} (old new : ClientView C) (d request : TsRequest) (state : CredSspState) (v : ℕ)
      (r : Result T Error) →
      is_waiting_in c old.context ≡ false → is_code d.error_code ≡ false →
      is_old_in old.context old.settings.least old.noted d.version ≡ false → is_altered_in old.context old.noted d.version ≡ false →
      IsSome new.context → state ≡ old.state → request ≡ record d { version = v } →
      IfErr r (λ e. OrMemory e.error_type (StateCause c state request new e.error_type)) →
      IfErr r (λ e. ClientCause c old d new e.error_type)
  client_cause_past old new d request state v (Ok x) idle code young altered begun same_state same h = h
  client_cause_past old new d request state v (Err e) idle code young altered begun same_state same h =
      let later : OrMemory e.error_type (StateCause c old.state d new e.error_type) = λ memory.
      subst (λ s. StateCause c s d new e.error_type) same_state
      (state_cause_same state d v new e.error_type (subst (λ x. StateCause c state x new e.error_type) same (h memory))) in
      rw (idle, code, young, altered) (λ memory. made_later old.context new.context _ _ begun (later memory))

  -- a turn that met a version that is too old was refused for it
  pub too_old : (old : ClientView C) (d : TsRequest) (kind : ErrorKind) (new : ClientView C) →
      is_waiting_in c old.context ≡ false → is_code d.error_code ≡ false →
      is_old_in old.context old.settings.least old.noted d.version ≡ true → ClientCause c old d new kind → kind ≡ DowngradeDetected
  too_old old d kind new idle code is h = rw (idle, code, is) at h

  -- a turn that was refused as it began
  pub client_cause_begun : (old new : ClientView C) (d : TsRequest) (kind : ErrorKind) →
      is_waiting_in c old.context ≡ false → is_code d.error_code ≡ false →
      VersionStopsIn old.context old.settings.least old.noted d.version kind
      (MadeOr old.context new.context
      (OrMemory kind (BeginCause c (ForClient old.settings.mode) Outbound (Some old.settings.credentials) kind)) ⊥) →
      ClientCause c old d new kind
  client_cause_begun old new d kind idle code h =
      rw (idle, code)
      (stops_map (is_old_in old.context old.settings.least old.noted d.version) DowngradeDetected kind _ _
      (stops_map (is_altered_in old.context old.noted d.version) MessageAltered kind _ _
      (λ given memory. made_by old.context new.context _ _ _ _ (λ cause. cause memory) (λ none. absurd none) given)) h)

  -- what is reported of both even when out of memory
  pub client_exact_begun : (old new : ClientView C) (d : TsRequest) (kind : ErrorKind) (Cause : Type 0) →
      is_waiting_in c old.context ≡ false → is_code d.error_code ≡ false →
      VersionStopsIn old.context old.settings.least old.noted d.version kind (MadeOr old.context new.context Cause ⊥) →
      ClientExact c old d new kind
  client_exact_begun old new d kind Cause idle code h =
      rw (idle, code)
      (stops_map (is_old_in old.context old.settings.least old.noted d.version) DowngradeDetected kind _ _
      (stops_map (is_altered_in old.context old.noted d.version) MessageAltered kind _ _
      (made_by old.context new.context _ _ _ _ (λ cause. tt) (λ none. absurd none))) h)

  pub client_exact_past : {T : Type 0} (old new : ClientView C) (d request : TsRequest) (state : CredSspState) (v : ℕ)
      (r : Result T Error) →
      is_waiting_in c old.context ≡ false → is_code d.error_code ≡ false →
      is_old_in old.context old.settings.least old.noted d.version ≡ false → is_altered_in old.context old.noted d.version ≡ false →
      IsSome new.context → state ≡ old.state → request ≡ record d { version = v } →
      IfErr r (λ e. StateExact c state request new e.error_type) → IfErr r (λ e. ClientExact c old d new e.error_type)
  client_exact_past old new d request state v (Ok x) idle code young altered begun same_state same h = h
  client_exact_past old new d request state v (Err e) idle code young altered begun same_state same h =
      rw (idle, code, young, altered)
      (made_later old.context new.context _ _ begun (subst (λ s. StateExact c s d new e.error_type) same_state
      (state_exact_same state d v new e.error_type (subst (λ x. StateExact c state x new e.error_type) same h))))
