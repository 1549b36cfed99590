-- When a server refuses a version as too old, unless its context refuses with that kind.
use Rattle.std.proofs.Common.{◌≡◌, ℕ, List, Option, None, Some, IsSome, Result, Ok, Err, IfErr, IsErrAnd, Bool, true, false, refl}
use Rattle.std.proofs.Common.{sym, subst}
use Rattle.sspi_types.specs.declared.error.Error.{Error}
use Rattle.sspi_types.specs.declared.error_kind.ErrorKind.{ErrorKind}
use Rattle.sspi_types.specs.declared.error_kind.ErrorKind.TheVariants.{DowngradeDetected, InvalidToken, MessageAltered}
use Rattle.sspi_types.specs.declared.credential_use.CredentialUse.TheVariants.{Inbound}
use Rattle.sspi_types.specs.declared.security_status.SecurityStatus.{SecurityStatus}
use Rattle.sspi_types.specs.declared.security_status.SecurityStatus.TheVariants as statuses
use Rattle.sspi_names.specs.declared.credentials.CredentialsBuffers.{CredentialsBuffers}
use Rattle.sspi_names.specs.Name.{Name}
use Rattle.sspi_tsreq.specs.declared.request.TsRequest.{TsRequest}
use Rattle.sspi_mech.specs.declared.step.Step.{Step}
use Rattle.sspi_mech.specs.Meaning.{Meaning}
use Rattle.sspi_credssp.specs.declared.mode.ServerMode.{ServerMode}
use Rattle.sspi_credssp.specs.declared.mode.ServerMode.TheVariants as modes
use Rattle.sspi_credssp.specs.declared.server_state.ServerError.{ServerError}
use Rattle.sspi_credssp.specs.declared.server_state.ServerState.{ServerState}
use Rattle.sspi_credssp.specs.declared.state.CredSspState.{CredSspState}
use Rattle.sspi_credssp.specs.declared.state.CredSspState.TheVariants.{NegoToken, PubKeyInfo, AuthInfo, Final}
use Rattle.sspi_credssp.specs.Context.{BeginCause, unmade, unacquired, IfContext, MadeOr, ContextSetting, NeverRefuses}
use Rattle.sspi_credssp.specs.Exchange.{delegated_identity}
use Rattle.sspi_credssp.specs.Noted.{ServerMeetsOld, differs, is_old, OrMemory}
use Rattle.sspi_credssp.specs.Proxy.{ProxyMeaning, ProxyTells}
use Rattle.sspi_credssp.specs.Ends.{ServerView}
use Rattle.sspi_credssp.specs.ServerCause.{ServerCause, MakeCause, unlisted, unbegun, ListRefused, StateCause, NegoCause, OverCause}
use Rattle.sspi_credssp.specs.ServerCause.{unknown, incomplete, known, AfterCause, ExchangeCause, BlobCause}
use Rattle.sspi_credssp.specs.ServerCause.{OpenedCause, UnreadCause, unread, IdentifyCause, nameless, looked, unset}
use Rattle.sspi_credssp.specs.ServerCause.{LookUpRefused, failed, nobody}
use Rattle.sspi_credssp.specs.ServerTurn.{server_args, Knowing, Unknown, Identified, Accepted, accepted, identified, completed, recounted}
use Rattle.sspi_credssp.specs.ServerTurn.{OnStep, RefusedAt, HasAccepted, HasAcceptedTurn, refused_step}
use Rattle.sspi_credssp.proofs.ClientHeeding.{IsOther, each_other, not_here, here, blob_never, proof_never}
use Rattle.sspi_credssp.proofs.CredentialRefusals.{refused_so, so_read}

look_up_never : (tells : ProxyTells) (name : Name) (before now : ℕ) → LookUpRefused tells name before now DowngradeDetected → ⊥
look_up_never tells name before now (failed rose kind) = absurd (cc (kind))
look_up_never tells name before now (nobody none kind) = absurd (cc (kind))

list_never : (mode : ServerMode) (before now : ℕ) → ListRefused mode before now DowngradeDetected → ⊥
list_never (modes.Negotiate config) before now h = let kind = h.1 in absurd (cc (kind))
list_never (modes.Ntlm config) before now h = h

begun_by : {C : Type 0} (old new : Option C) (Cause Later : Type 0) → (Cause → ⊥) → (IsSome old → IsSome new) →
    MadeOr old new Cause Later → IsSome new × Later
begun_by (Some m) new Cause Later refute keeps h = (keeps refl, h)
begun_by None (Some m) Cause Later refute keeps h = (refl, h)
begun_by None None Cause Later refute keeps h = absurd (refute h)

if_never : {C : Type 0} (context : Option C) (Q : C → Type 0) → ((m : C) → Q m → ⊥) → IfContext context Q → ⊥
if_never None Q refute h = h
if_never (Some m) Q refute h = refute m h

module _ {C : Type 0} (c : Meaning ContextSetting C) (never : NeverRefuses c DowngradeDetected) where
  begin_never : (s : ContextSetting) → BeginCause c s Inbound None DowngradeDetected → ⊥
  begin_never s (unmade u) = never.makes s u
  begin_never s (unacquired m made refused) = never.calls m _ refused

  unread_never : (m : C) (blob : List ℕ) → UnreadCause c m blob DowngradeDetected → ⊥
  unread_never m blob (unread text error opens read kind) =
      refused_so IsOther (delegated_identity text) error (so_read IsOther each_other text) read (sym kind)

  opened_never : (opened : Bool) (context : Option C) (blob : List ℕ) → OpenedCause c opened context blob DowngradeDetected → ⊥
  opened_never opened None blob h = h
  opened_never false (Some m) blob h = never.calls m _ h
  opened_never true (Some m) blob h = unread_never m blob h

  identify_never : (m : C) (tells : ProxyTells) (before now : ℕ) → IdentifyCause c m tells before now DowngradeDetected → ⊥
  identify_never m tells before now (nameless refused) = never.calls m _ refused
  identify_never m tells before now (looked name named refused) = look_up_never tells name before now refused
  identify_never m tells before now (unset name identities named candidates some refused) = never.calls m _ refused

  module _ {P : Type 0} (p : ProxyMeaning P) where
    make_never : (mode : ServerMode) (before now : P) → MakeCause c p mode before now DowngradeDetected → ⊥
    make_never mode before now (unlisted h) = list_never mode _ _ h
    make_never mode before now (unbegun h) = begin_never _ h

    accepted_other : (start : ServerView C P) (handle : Option CredentialsBuffers) (token : Option (List ℕ)) (knowing : Knowing)
        (answer : Result Step Error) (error : Error) (m : C) → answer ≡ Err error → Accepted c p start handle token knowing answer m →
        IsOther error
    accepted_other start handle token knowing answer error m is (accepted m0 m1 a begun step) =
        never.accepts m0 m (server_args handle token) error (subst
        (λ (x : Result Step Error). c.accepts m0 (server_args handle token) x m) is step)
    accepted_other start handle token knowing answer error m is (identified m1 m2 a before found) =
        accepted_other start handle token Unknown answer error m1 is before
    accepted_other start handle token knowing answer error m is (completed m1 a before permitted) =
        accepted_other start handle token Identified answer error m is before
    accepted_other start handle token knowing answer error m is (recounted m1 m2 n k a before counted quiet) =
        accepted_other start handle token k answer error m1 is before

    stepped_other : (status : Option SecurityStatus) (negotiated : Bool) (start : ServerView C P) (handle : Option CredentialsBuffers)
        (token : Option (List ℕ)) (output : List ℕ) (error : Error) (context : Option C) → status ≡ None → negotiated ≡ true →
        OnStep c p negotiated (IfContext context (RefusedAt c p status start handle token (refused_step status output error))) →
        IsOther error
    stepped_other status negotiated start handle token output error None none was h = absurd (rw was at h)
    stepped_other status negotiated start handle token output error (Some m) none was h =
        accepted_other start handle token Unknown (Err error) error m refl (rw (was, none) at h)

    blob_cause_never : (noted : ℕ) (context : Option C) (sent : Option (List ℕ)) (blob : List ℕ) (new : ServerView C P) →
        BlobCause c noted context sent blob new DowngradeDetected → ⊥
    blob_cause_never noted None sent blob new h = h
    blob_cause_never noted (Some m) sent blob new h = proof_never c never new.acts.checked m blob _ _ (never.calls m _) h

    exchange_never : (field : Option (List ℕ)) (noted : Option ℕ) (sent : Option (List ℕ)) (new : ServerView C P) →
        ExchangeCause c field noted sent new DowngradeDetected → ⊥
    exchange_never None noted sent new h = absurd (cc (h))
    exchange_never (Some blob) None sent new h = h
    exchange_never (Some blob) (Some v) sent new h =
        blob_never (Some blob) DowngradeDetected _ (λ e. absurd (cc (e))) (λ b. blob_cause_never v new.context sent b new)
        (not_here _ InvalidToken DowngradeDetected _ (λ e. absurd (cc (e))) h).1

    after_never : (field sent : Option (List ℕ)) (new : ServerView C P) → AfterCause c field sent new DowngradeDetected → ⊥
    after_never None sent new h = let kind = h.1 in absurd (cc (kind))
    after_never (Some blob) sent new h = exchange_never (Some blob) new.noted sent new h

    over_never : (status : SecurityStatus) (old : ServerView C P) (d : TsRequest) (new : ServerView C P) →
        OverCause c p status old d new DowngradeDetected → ⊥
    over_never status old d new (unknown unchecked come cause) = if_never new.context _ (λ m. identify_never m _ _ _) cause
    over_never status old d new (incomplete unchecked come cause) = if_never new.context _ (λ m. never.calls m _) cause
    over_never status old d new (known come cause) = after_never d.pub_key_auth d.client_nonce new cause

    nego_never : (status : Option SecurityStatus) (old : ServerView C P) (d : TsRequest) (new : ServerView C P) →
        (status ≡ None → new.acts.negotiated ≡ true → ⊥) → NegoCause c p status old d new DowngradeDetected → ⊥
    nego_never None old d new refute h = refute refl h
    nego_never (Some statuses.ContinueNeeded) old d new refute h = h
    nego_never (Some statuses.CompleteNeeded) old d new refute h = over_never statuses.CompleteNeeded old d new h
    nego_never (Some statuses.Ok) old d new refute h = over_never statuses.Ok old d new h
    nego_never (Some statuses.CompleteAndContinue) old d new refute h = absurd (cc (h))
    nego_never (Some statuses.LocalLogon) old d new refute h = absurd (cc (h))
    nego_never (Some statuses.ContextExpired) old d new refute h = absurd (cc (h))
    nego_never (Some statuses.IncompleteCredentials) old d new refute h = absurd (cc (h))
    nego_never (Some statuses.Renegotiate) old d new refute h = absurd (cc (h))
    nego_never (Some statuses.NoLsaContext) old d new refute h = absurd (cc (h))

    state_never : (state : CredSspState) (old : ServerView C P) (d : TsRequest) (new : ServerView C P) →
        (new.acts.status ≡ None → new.acts.negotiated ≡ true → ⊥) → StateCause c p state old d new DowngradeDetected → ⊥
    state_never NegoToken old d new refute h = nego_never new.acts.status old d new refute h
    state_never PubKeyInfo old d new refute h = exchange_never d.pub_key_auth new.noted d.client_nonce new h
    state_never AuthInfo old d new refute h =
        blob_never d.auth_info DowngradeDetected _ (λ e. absurd (cc (e))) (λ blob. opened_never new.acts.opened new.context blob) h
    state_never Final old d new refute h = absurd (cc (h))

    -- a refusal of that kind shows where the server stopped
    pub server_met : (T : Type 0) (old : ServerView C P) (d : TsRequest) (error : Error) (new : ServerView C P) →
        (IsSome old.context → IsSome new.context) →
        ServerCause c p old d new error.error_type →
        HasAccepted c p {T = T} old d (Err error) new →
        error.error_type ≡ DowngradeDetected → ServerMeetsOld c old d new
    server_met T old d error new keeps cause step is =
        let why : ServerCause c p old d new DowngradeDetected =
        subst (λ (k : ErrorKind). ServerCause c p old d new k) is cause in
        let unanswered : new.acts.status ≡ None → new.acts.negotiated ≡ true → ⊥ = λ none was.
        stepped_other new.acts.status new.acts.negotiated old new.handle d.nego_tokens new.output error new.context none was step is in
        let begun = begun_by old.context new.context _ _
        (λ (h : OrMemory DowngradeDetected (MakeCause c p old.settings.mode old.proxy new.proxy DowngradeDetected)).
        make_never old.settings.mode old.proxy new.proxy (h (λ e. absurd (cc (e))))) keeps why in
        record {
          begun = begun.0;
          old = here (is_old old.settings.least old.noted d.version) DowngradeDetected _ (λ later.
              let past : OrMemory DowngradeDetected (StateCause c p old.state old d new DowngradeDetected) =
              (not_here (differs old.noted d.version) MessageAltered DowngradeDetected _ (λ e. absurd (cc (e))) later).1 in
              state_never old.state old d new unanswered (past (λ e. absurd (cc (e))))) begun.1;
        }

    pub server_only : (old : ServerView C P) (d : TsRequest) (r : Result ServerState ServerError) (new : ServerView C P) →
        (IsSome old.context → IsSome new.context) →
        IfErr r (λ refusal. ServerCause c p old d new refusal.error.error_type) →
        HasAcceptedTurn c p old d r new →
        IsErrAnd r (λ refusal. refusal.error.error_type ≡ DowngradeDetected) → ServerMeetsOld c old d new
    server_only old d (Ok state) new keeps cause step is = absurd is
    server_only old d (Err refusal) new keeps cause step is = server_met ServerState old d refusal.error new keeps cause step is
