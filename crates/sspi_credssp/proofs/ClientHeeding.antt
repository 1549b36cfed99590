-- When a client refuses a version as too old, unless its context refuses with that kind.
use Rattle.std.proofs.Common.{◌≡◌, ◌≢◌, ℕ, List, Option, None, Some, Result, Ok, Err, IfErr, IsErrAnd, Bool, true, false, refl, sym, subst}
use Rattle.sspi_types.specs.declared.error.Error.{Error}
use Rattle.sspi_types.specs.declared.error_kind.ErrorKind.{ErrorKind}
use Rattle.sspi_types.specs.declared.error_kind.ErrorKind.TheVariants.{DowngradeDetected, OutOfSequence, InvalidToken, MessageAltered}
use Rattle.sspi_types.specs.declared.credential_use.CredentialUse.TheVariants.{Outbound}
use Rattle.sspi_types.specs.declared.security_status.SecurityStatus.{SecurityStatus}
use Rattle.sspi_types.specs.declared.security_status.SecurityStatus.TheVariants as statuses
use Rattle.sspi_names.specs.declared.credentials.Credentials.{Credentials}
use Rattle.sspi_names.specs.declared.credentials.CredentialsBuffers.{CredentialsBuffers}
use Rattle.sspi_tsreq.specs.declared.request.TsRequest.{TsRequest}
use Rattle.sspi_mech.specs.declared.step.Answer.{Answer}
use Rattle.sspi_mech.specs.declared.step.Answer.TheVariants.{Refused}
use Rattle.sspi_mech.specs.Meaning.{Meaning}
use Rattle.sspi_credssp.specs.declared.client_state.Progress.{Progress}
use Rattle.sspi_credssp.specs.declared.public_key.EndpointType.TheVariants.{Server}
use Rattle.sspi_credssp.specs.declared.state.CredSspState.{CredSspState}
use Rattle.sspi_credssp.specs.declared.state.CredSspState.TheVariants.{NegoToken, PubKeyInfo, AuthInfo, Final}
use Rattle.sspi_credssp.specs.Context.{BeginCause, unmade, unacquired, IfContext, MadeOr, ContextSetting, ForClient, NeverRefuses}
use Rattle.sspi_credssp.specs.Ends.{ClientView}
use Rattle.sspi_credssp.specs.ClientCause.{ClientCause, StateCause, NegoCause, ProveCause, BlobOpens, SealsCause}
use Rattle.sspi_credssp.specs.ClientTurn.{client_args, Asked, Walked, stepped, resumed, still_asked, recounted, OnStep, HasStepped}
use Rattle.sspi_credssp.specs.ClientTurn.{refused_answer}
use Rattle.sspi_credssp.specs.Acts.{is_waiting_in}
use Rattle.sspi_credssp.specs.Exchange.{delegated_text, BlobStops, altered, unsealed, CheckedCause, ProofCause, prescribed}
use Rattle.sspi_credssp.specs.Noted.{ClientMeetsOld, is_old_in, is_altered_in, StopsIf, OrMemory}
use Rattle.sspi_credssp.specs.Requests.{is_code}
use Rattle.sspi_credssp.proofs.CredentialRefusals.{IfRefused, OfEach, so_delegated}

-- of another kind
abbrev pub IsOther : Error → Type 0
IsOther error = error.error_type ≢ DowngradeDetected

pub each_other : OfEach IsOther
each_other = record {
  of_malformed = λ e. absurd (cc (e));
  of_unknown_type = λ e. absurd (cc (e));
  of_smart_card = λ e. absurd (cc (e));
  of_keytab = λ e. absurd (cc (e));
  of_too_long = λ e. absurd (cc (e));
  of_bad_text = λ e. absurd (cc (e));
  of_bad_name = λ e. absurd (cc (e));
  of_memory = λ e. absurd (cc (e));
}

-- it did not stop here
pub not_here : (b : Bool) (here kind : ErrorKind) (Later : Type 0) → kind ≢ here → StopsIf b here kind Later → (b ≡ false) × Later
not_here true here kind Later other h = absurd (other h)
not_here false here kind Later other h = (refl, h)

-- it stopped here, since it did not later
pub here : (b : Bool) (kind : ErrorKind) (Later : Type 0) → (Later → ⊥) → StopsIf b kind kind Later → b ≡ true
here true kind Later never h = refl
here false kind Later never h = absurd (never h)

pub made_never : {C : Type 0} (old new : Option C) (Cause Later : Type 0) → (Cause → ⊥) → (Later → ⊥) → MadeOr old new Cause Later → ⊥
made_never (Some m) new Cause Later refute never h = never h
made_never None (Some m) Cause Later refute never h = never h
made_never None None Cause Later refute never h = refute h

pub blob_never : (field : Option (List ℕ)) (kind : ErrorKind) (Later : List ℕ → Type 0) → kind ≢ InvalidToken →
    ((blob : List ℕ) → Later blob → ⊥) →
    BlobStops field kind Later → ⊥
blob_never None kind Later other never h = other h
blob_never (Some blob) kind Later other never h = never blob (not_here _ InvalidToken kind (Later blob) other h).1

-- a call without a step says nothing of one
pub no_step : {C : Type 0} (c : Meaning ContextSetting C) (negotiated : Bool) (Q : Type 0) → negotiated ≡ false → OnStep c negotiated Q
no_step c true Q none = absurd (cc (none))
no_step c false Q none = tt

module _ {C : Type 0} (c : Meaning ContextSetting C) (never : NeverRefuses c DowngradeDetected) where
  walked_other : (start : ClientView C) (handle : Option CredentialsBuffers) (token : Option (List ℕ)) (tries : ℕ) (log : List Asked)
      (answer : Answer) (error : Error) (m : C) → answer ≡ Refused error → Walked c start handle token tries log answer m → IsOther error
  walked_other start handle token tries log answer error m is (stepped m0 m1 a begun step) =
      never.steps m0 m (client_args handle start.settings.target token) error
      (subst (λ (x : Answer). c.steps m0 (client_args handle start.settings.target token) x m) is step)
  walked_other start handle token tries log answer error m is (resumed m1 m2 tried before q reply a walked step) =
      never.resumes m1 m reply error (subst (λ (x : Answer). c.resumes m1 reply x m) is step)
  walked_other start handle token tries log answer error m is (still_asked m1 m2 tried before q reply refusal walked step waits) =
      absurd (cc (is))
  walked_other start handle token tries log answer error m is (recounted m1 m2 n tried before a walked counted quiet) =
      walked_other start handle token tried log answer error m1 is walked

  stepped_other : (status : Option SecurityStatus) (negotiated : Bool) (start : ClientView C) (handle : Option CredentialsBuffers)
      (token : Option (List ℕ))
      (tries : ℕ) (log : List Asked) (output : List ℕ) (error : Error) (context : Option C) → status ≡ None → negotiated ≡ true →
      OnStep c negotiated (IfContext context (Walked c start handle token tries log (refused_answer status output error))) → IsOther error
  stepped_other status negotiated start handle token tries log output error None none was h = absurd (rw was at h)
  stepped_other status negotiated start handle token tries log output error (Some m) none was h =
      walked_other start handle token tries log (refused_answer status output error) error m (rw none refl) (rw was at h)

  begin_never : (s : ContextSetting) (credentials : Option Credentials) → BeginCause c s Outbound credentials DowngradeDetected → ⊥
  begin_never s credentials (unmade u) = never.makes s u
  begin_never s credentials (unacquired m made refused) = never.calls m _ refused

  prove_never : (noted : Option ℕ) (context : Option C) (new : ClientView C) → ProveCause c noted context new DowngradeDetected → ⊥
  prove_never None context new h = absurd (cc (h))
  prove_never (Some v) None new h = h
  prove_never (Some v) (Some m) new h = never.calls m _ h

  checked_never : (m : C) (blob proof : List ℕ) (Unsealed : Type 0) → (Unsealed → ⊥) →
      CheckedCause c m blob proof Unsealed DowngradeDetected → ⊥
  checked_never m blob proof Unsealed refute (altered opens kind) = absurd (cc (kind))
  checked_never m blob proof Unsealed refute (unsealed opens h) = refute h

  pub proof_never : (checked : Bool) (m : C) (blob proof : List ℕ) (Unsealed : Type 0) → (Unsealed → ⊥) →
      ProofCause c checked m blob proof Unsealed DowngradeDetected → ⊥
  proof_never false m blob proof Unsealed refute h = never.calls m _ h
  proof_never true m blob proof Unsealed refute h = checked_never m blob proof Unsealed refute h

  seals_never : (m : C) (text : Result (List ℕ) Error) → IfRefused IsOther text → SealsCause c m text DowngradeDetected → ⊥
  seals_never m (Ok text) other h = never.calls m _ h
  seals_never m (Err error) other h = other (sym h)

  opens_never : (noted : Option ℕ) (context : Option C) (blob : List ℕ) (new : ClientView C) →
      BlobOpens c noted context blob new DowngradeDetected → ⊥
  opens_never None context blob new h = h
  opens_never (Some v) None blob new h = h
  opens_never (Some v) (Some m) blob new h =
      proof_never new.acts.checked m blob (prescribed Server v new.settings.nonce new.settings.public_key) _
      (seals_never m (delegated_text new.settings.credentials new.settings.delegation)
      (so_delegated IsOther each_other new.settings.credentials new.settings.delegation)) h

  nego_never : (status : Option SecurityStatus) (new : ClientView C) → (status ≡ None → new.acts.negotiated ≡ true → ⊥) →
      NegoCause c status new DowngradeDetected → ⊥
  nego_never None new refute h = refute refl h
  nego_never (Some statuses.Ok) new refute h = prove_never new.noted new.context new h
  nego_never (Some other) new refute h = h

  state_never : (state : CredSspState) (d : TsRequest) (new : ClientView C) → (new.acts.status ≡ None → new.acts.negotiated ≡ true → ⊥) →
      StateCause c state d new DowngradeDetected → ⊥
  state_never NegoToken d new refute h = nego_never new.acts.status new refute h
  state_never PubKeyInfo d new refute h = absurd (cc (h))
  state_never AuthInfo d new refute h =
      blob_never d.pub_key_auth DowngradeDetected _ (λ e. absurd (cc (e))) (λ blob. opens_never new.noted new.context blob new) h
  state_never Final d new refute h = absurd (cc (h))

  -- a refusal of that kind shows where the client stopped
  pub client_met : (old : ClientView C) (d : TsRequest) (tries : ℕ) (log : List Asked) (error : Error) (new : ClientView C) →
      ClientCause c old d new error.error_type → HasStepped c old d tries log (Err error) new →
      error.error_type ≡ DowngradeDetected → ClientMeetsOld c old d
  client_met old d tries log error new cause step is =
      let why : ClientCause c old d new DowngradeDetected =
      subst (λ (k : ErrorKind). ClientCause c old d new k) is cause in
      let unanswered : new.acts.status ≡ None → new.acts.negotiated ≡ true → ⊥ = λ none was.
      stepped_other new.acts.status new.acts.negotiated old new.handle d.nego_tokens tries log new.output error new.context none was step
      is in
      let idle = not_here (is_waiting_in c old.context) OutOfSequence DowngradeDetected _ (λ e. absurd (cc (e))) why in
      let code = not_here (is_code d.error_code) InvalidToken DowngradeDetected _ (λ e. absurd (cc (e))) idle.1 in
      record {
        idle = idle.0;
        code = code.0;
        old = here (is_old_in old.context old.settings.least old.noted d.version) DowngradeDetected _ (λ later.
            let past : OrMemory DowngradeDetected (MadeOr old.context new.context
            (BeginCause c (ForClient old.settings.mode) Outbound (Some old.settings.credentials) DowngradeDetected)
            (StateCause c old.state d new DowngradeDetected)) =
            (not_here (is_altered_in old.context old.noted d.version) MessageAltered DowngradeDetected _ (λ e. absurd (cc (e))) later).1 in
            made_never old.context new.context _ _ (begin_never (ForClient old.settings.mode) (Some old.settings.credentials))
            (state_never old.state d new unanswered) (past (λ e. absurd (cc (e)))))
            code.1;
      }

  -- a resumed step refuses with that kind only if its context does
  pub resumed_never : (start : ClientView C) (d : TsRequest) (tries : ℕ) (log : List Asked) (r : Result Progress Error)
      (new : ClientView C) →
      IfErr r (λ error. OrMemory error.error_type (NegoCause c new.acts.status new error.error_type)) →
      HasStepped c start d tries log r new →
      IsErrAnd r (λ error. error.error_type ≡ DowngradeDetected) → ⊥
  resumed_never start d tries log (Ok progress) new cause step is = is
  resumed_never start d tries log (Err error) new cause step is =
      let unanswered : new.acts.status ≡ None → new.acts.negotiated ≡ true → ⊥ = λ none was.
      stepped_other new.acts.status new.acts.negotiated start new.handle d.nego_tokens tries log new.output error new.context none was
      step is in
      nego_never new.acts.status new unanswered
      (subst (λ (k : ErrorKind). NegoCause c new.acts.status new k) is (cause (λ memory. absurd (cc (is, memory)))))

  pub client_only : (old : ClientView C) (d : TsRequest) (tries : ℕ) (log : List Asked) (r : Result Progress Error) (new : ClientView C) →
      IfErr r (λ error. ClientCause c old d new error.error_type) →
      HasStepped c old d tries log r new →
      IsErrAnd r (λ error. error.error_type ≡ DowngradeDetected) → ClientMeetsOld c old d
  client_only old d tries log (Ok progress) new cause step is = absurd is
  client_only old d tries log (Err error) new cause step is = client_met old d tries log error new cause step is
