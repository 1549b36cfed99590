-- The causes of a server's refusals, put together from those of the calls inside.
use Rattle.std.proofs.Common.{◌≡◌, ◌≢◌, ℕ, Some, IsSome, Result, Ok, Err, IfErr, false, [], subst, arith}
use Rattle.sspi_mech.specs.declared.refusal.Refusal.{Refusal}
use Rattle.sspi_types.specs.declared.error_kind.ErrorKind.{ErrorKind}
use Rattle.sspi_types.specs.declared.error_kind.ErrorKind.TheVariants.{InsufficientMemory, MessageAltered, DowngradeDetected}
use Rattle.sspi_types.specs.declared.security_status.SecurityStatus.{SecurityStatus}
use Rattle.sspi_types.specs.declared.security_status.SecurityStatus.TheVariants as statuses
use Rattle.sspi_names.specs.Name.{Name}
use Rattle.sspi_tsreq.specs.declared.request.TsRequest.{TsRequest}
use Rattle.sspi_mech.specs.Meaning.{Meaning}
use Rattle.sspi_credssp.specs.declared.server_state.ServerError.{ServerError}
use Rattle.sspi_credssp.specs.declared.state.CredSspState.{CredSspState}
use Rattle.sspi_credssp.specs.declared.state.CredSspState.TheVariants.{NegoToken, PubKeyInfo, AuthInfo, Final}
use Rattle.sspi_credssp.specs.Context.{MadeOr, ContextSetting}
use Rattle.sspi_credssp.specs.Proxy.{ProxyMeaning, ProxyTells, AreFound}
use Rattle.sspi_credssp.specs.ServerStage.{IsLater}
use Rattle.sspi_credssp.specs.Ends.{ServerView}
use Rattle.sspi_credssp.specs.ServerCause.{ServerCause, MakeCause, StateCause, NegoCause, AfterCause, OverCause, known, IdentifyCause, ServerExact, StateExact}
use Rattle.sspi_credssp.specs.ServerCause.{nameless, looked, unset, LookUpRefused, failed, nobody}
use Rattle.sspi_credssp.specs.ServerTurn.{Completed, HasCome}
use Rattle.sspi_credssp.specs.Turn.{IsOver}
use Rattle.sspi_credssp.specs.Noted.{differs, is_old, VersionStops, OrMemory}
use Rattle.sspi_credssp.proofs.Causes.{stops_map, made_map, made_by, made_later}

module _ {C : Type 0} (c : Meaning ContextSetting C) where
  -- a turn that was refused as it began
  pub server_cause_begun : {P : Type 0} (p : ProxyMeaning P) (old new : ServerView C P) (d : TsRequest) (kind : ErrorKind) →
      MadeOr old.context new.context (OrMemory kind (MakeCause c p old.settings.mode old.proxy new.proxy kind))
      (VersionStops old.settings.least old.noted d.version kind ⊥) →
      ServerCause c p old d new kind
  server_cause_begun p old new d kind h =
      made_map old.context new.context _ _ _
      (stops_map (is_old old.settings.least old.noted d.version) DowngradeDetected kind _ _
      (stops_map (differs old.noted d.version) MessageAltered kind _ _ (λ none. absurd none))) h

  -- what is reported of both even when out of memory
  pub server_exact_begun : {P : Type 0} (old new : ServerView C P) (d : TsRequest) (kind : ErrorKind) (Cause : Type 0) →
      MadeOr old.context new.context Cause (VersionStops old.settings.least old.noted d.version kind ⊥) → ServerExact c old d new kind
  server_exact_begun old new d kind Cause h =
      made_by old.context new.context _ _ _ _ (λ cause. tt)
      (stops_map (is_old old.settings.least old.noted d.version) DowngradeDetected kind _ _
      (stops_map (differs old.noted d.version) MessageAltered kind _ _ (λ none. absurd none))) h

  state_exact_same : {P : Type 0} (state : CredSspState) (d : TsRequest) (v : ℕ) (new : ServerView C P) (kind : ErrorKind) →
      StateExact c state (record d { version = v }) new kind → StateExact c state d new kind
  state_exact_same NegoToken d v new kind h = h
  state_exact_same PubKeyInfo d v new kind h = h
  state_exact_same AuthInfo d v new kind h = h
  state_exact_same Final d v new kind h = h

  pub server_exact_past : {P T : Type 0} (old new : ServerView C P) (d request : TsRequest) (state : CredSspState) (v : ℕ)
      (r : Result T ServerError) →
      is_old old.settings.least old.noted d.version ≡ false → differs old.noted d.version ≡ false → IsSome new.context →
      state ≡ old.state → request ≡ record d { version = v } →
      IfErr r (λ refusal. StateExact c state request new refusal.error.error_type) →
      IfErr r (λ refusal. ServerExact c old d new refusal.error.error_type)
  server_exact_past old new d request state v (Ok x) young fits begun same_state same h = h
  server_exact_past old new d request state v (Err refusal) young fits begun same_state same h =
      made_later old.context new.context _ _ begun
      (rw (young, fits) (subst (λ s. StateExact c s d new refusal.error.error_type) same_state
      (state_exact_same state d v new refusal.error.error_type
      (subst (λ x. StateExact c state x new refusal.error.error_type) same h))))

  module _ {P : Type 0} (p : ProxyMeaning P) where
    -- a turn that was refused after the version check
    pub server_cause_past : {T : Type 0} (old new : ServerView C P) (d : TsRequest) (state : CredSspState) (r : Result T ServerError) →
        is_old old.settings.least old.noted d.version ≡ false → differs old.noted d.version ≡ false → IsSome new.context →
        state ≡ old.state →
        IfErr r (λ refusal. OrMemory refusal.error.error_type (StateCause c p state old d new refusal.error.error_type)) →
        IfErr r (λ refusal. ServerCause c p old d new refusal.error.error_type)
    server_cause_past old new d state (Ok x) young fits begun same_state h = h
    server_cause_past old new d state (Err refusal) young fits begun same_state h =
        made_later old.context new.context _ _ begun
        (rw (young, fits) (λ memory. subst (λ s. StateCause c p s old d new refusal.error.error_type) same_state (h memory)))

    over_cause : (s : SecurityStatus) (old : ServerView C P) (d : TsRequest) (new : ServerView C P) (kind : ErrorKind) →
        IsOver (Some s) → OverCause c p s old d new kind → NegoCause c p (Some s) old d new kind
    over_cause statuses.Ok old d new kind over h = h
    over_cause statuses.ContinueNeeded old d new kind over h = absurd over
    over_cause statuses.CompleteNeeded old d new kind over h = h
    over_cause statuses.CompleteAndContinue old d new kind over h = absurd over
    over_cause statuses.LocalLogon old d new kind over h = absurd over
    over_cause statuses.ContextExpired old d new kind over h = absurd over
    over_cause statuses.IncompleteCredentials old d new kind over h = absurd over
    over_cause statuses.Renegotiate old d new kind over h = absurd over
    over_cause statuses.NoLsaContext old d new kind over h = absurd over

    -- past the end of the authentication
    pub over_causes : {T : Type 0} (s : SecurityStatus) (old : ServerView C P) (d : TsRequest) (new : ServerView C P)
        (r : Result T Refusal) →
        IsOver (Some s) → IfErr r (λ e. e.error_type ≢ InsufficientMemory → OverCause c p s old d new e.error_type) →
        IfErr r (λ e. e.error_type ≢ InsufficientMemory → NegoCause c p (Some s) old d new e.error_type)
    over_causes s old d new (Ok x) over h = h
    over_causes s old d new (Err e) over h = λ memory. over_cause s old d new e.error_type over (h memory)

    -- once the context is completed
    pub known_causes : {T : Type 0} (s : SecurityStatus) (old : ServerView C P) (d request : TsRequest) (v : ℕ) (new : ServerView C P)
        (r : Result T Refusal) →
        request ≡ record d { version = v } → HasCome c p Completed s old d new →
        IfErr r (λ e. e.error_type ≢ InsufficientMemory → AfterCause c request.pub_key_auth request.client_nonce new e.error_type) →
        IfErr r (λ e. e.error_type ≢ InsufficientMemory → OverCause c p s old d new e.error_type)
    known_causes s old d request v new (Ok x) same come h = h
    known_causes s old d request v new (Err e) same come h = λ memory.
        known come (subst (λ (x : TsRequest). AfterCause c x.pub_key_auth x.client_nonce new e.error_type) same (h memory))

    -- the proxy was asked for its list before it is asked for the peer
    looked_since : (name : Name) (before mid : P) (now : ℕ) (kind : ErrorKind) → IsLater p before mid →
        LookUpRefused (p.told mid) name (p.faults mid) now kind → LookUpRefused (p.told before) name (p.faults before) now kind
    looked_since name before mid now kind later (failed rises is) = failed (omega (arith, later.faults_stay, rises)) is
    looked_since name before mid now kind later (nobody found is) =
        nobody (subst (λ (t : ProxyTells). AreFound t name []) later.told_same found) is

    pub identified_since : (m : C) (before mid : P) (now : ℕ) (kind : ErrorKind) → IsLater p before mid →
        IdentifyCause c m (p.told mid) (p.faults mid) now kind → IdentifyCause c m (p.told before) (p.faults before) now kind
    identified_since m before mid now kind later (nameless refused) = nameless refused
    identified_since m before mid now kind later (looked name named refused) =
        looked name named (looked_since name before mid now kind later refused)
    identified_since m before mid now kind later (unset name identities named found some refused) =
        unset name identities named (subst (λ (t : ProxyTells). AreFound t name identities) later.told_same found) some refused
