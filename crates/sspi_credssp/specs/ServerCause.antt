-- Why a server's turn was refused, in the order of its checks.
use Rattle.std.specs.Prelude.{◌≡◌, ◌≢◌, ℕ, ◌-◌, ◌≤◌, List, [], map, Option, None, Some, Err, Bool}
use Rattle.std.specs.Prelude.{true, false, nat_lt}
use Rattle.sspi_types.specs.declared.credential_use.CredentialUse.TheVariants.{Inbound}
use Rattle.sspi_types.specs.declared.error.Error.{Error}
use Rattle.sspi_types.specs.declared.error_kind.ErrorKind.{ErrorKind}
use Rattle.sspi_types.specs.declared.error_kind.ErrorKind.TheVariants.{InvalidToken, InternalError}
use Rattle.sspi_types.specs.declared.error_kind.ErrorKind.TheVariants.{LogonDenied}
use Rattle.sspi_types.specs.declared.error_kind.ErrorKind.TheVariants.{NoCredentials}
use Rattle.sspi_types.specs.declared.error_kind.ErrorKind.TheVariants.{UnsupportedFunction}
use Rattle.sspi_types.specs.declared.security_status.SecurityStatus.{SecurityStatus}
use Rattle.sspi_types.specs.declared.security_status.SecurityStatus.TheVariants as statuses
use Rattle.sspi_names.specs.declared.credentials.Credentials.TheVariants as credentials
use Rattle.sspi_names.specs.declared.identity.AuthIdentity.{AuthIdentity}
use Rattle.sspi_names.specs.Name.{Name}
use Rattle.sspi_tsreq.specs.declared.request.TsRequest.{TsRequest}
use Rattle.sspi_mech.specs.Calls.{ToName, ToIdentify, ToComplete, ToSeal, ToUnseal}
use Rattle.sspi_mech.specs.Meaning.{Meaning}
use Rattle.sspi_credssp.specs.declared.mode.ServerMode.{ServerMode}
use Rattle.sspi_credssp.specs.declared.mode.ServerMode.TheVariants as modes
use Rattle.sspi_credssp.specs.declared.public_key.EndpointType.TheVariants.{Client, Server}
use Rattle.sspi_credssp.specs.declared.state.CredSspState.{CredSspState}
use Rattle.sspi_credssp.specs.declared.state.CredSspState.TheVariants.{NegoToken, PubKeyInfo}
use Rattle.sspi_credssp.specs.declared.state.CredSspState.TheVariants.{AuthInfo, Final}
use Rattle.sspi_credssp.specs.Context.{BeginCause, IfContext, MadeOr, ContextSetting, ForServer}
use Rattle.sspi_credssp.specs.Exchange.{delegated_identity, AlteredExactly, BlobStops, ProofCause}
use Rattle.sspi_credssp.specs.Exchange.{prescribed}
use Rattle.sspi_mech.specs.Answered.{IsRefusedAs}
use Rattle.sspi_credssp.specs.Noted.{VersionStops, StopsIf, OrMemory}
use Rattle.sspi_types.specs.Counting.{counted_on}
use Rattle.sspi_credssp.specs.Proxy.{ProxyMeaning, ProxyTells, AreFound}
use Rattle.sspi_credssp.specs.Requests.{nonce_of}
use Rattle.sspi_credssp.specs.Ends.{ServerView}
use Rattle.sspi_credssp.specs.ServerTurn.{Unknown, Identified, Completed, HasCome}

-- from version 5 on the nonce must be present
abbrev pub lacks_nonce : Bool → Option (List ℕ) → Bool
lacks_nonce true sent_nonce = false
lacks_nonce false None = true
lacks_nonce false (Some sent_nonce) = false

-- The look-up failed, or found nobody; `before` and `now` are the proxy's counts of faults.
pub data LookUpRefused (tells : ProxyTells) (name : Name) (before now : ℕ) (kind : ErrorKind) : Type
    0 where
  failed : counted_on before ≤ now → kind ≡ LogonDenied → LookUpRefused tells name before now kind
  nobody : AreFound tells name [] → kind ≡ NoCredentials → LookUpRefused tells name before now kind

-- listing the identities that the context is made with failed
abbrev pub ListRefused : ServerMode → ℕ → ℕ → ErrorKind → Type 0
ListRefused (modes.Negotiate config) before now kind = (counted_on before ≤ now) ×
    (kind ≡ InternalError)
ListRefused (modes.Ntlm config) before now kind = ⊥

module _ {C : Type 0} (c : Meaning ContextSetting C) where
  -- the peer is not known: it has no name, its look-up was refused, or the context refuses its
  -- identities
  pub data IdentifyCause (m : C) (tells : ProxyTells) (before now : ℕ) (kind : ErrorKind) : Type 0
    where
      nameless : c.refuses m ToName kind → IdentifyCause m tells before now kind
      looked : (name : Name) → c.names m ≡ Some name → LookUpRefused tells name before now kind →
          IdentifyCause m tells before now kind
      unset : (name : Name) (identities : List AuthIdentity) → c.names m ≡ Some name →
          AreFound tells name identities →
          identities ≢ [] → c.refuses m (ToIdentify (map credentials.AuthIdentity identities)) kind →
          IdentifyCause m tells before now kind

  -- the blob was opened, but its text does not hold credentials
  pub data UnreadCause (m : C) (blob : List ℕ) (kind : ErrorKind) : Type 0 where
    unread : (text : List ℕ) (error : Error) → c.opens m ((c.counts m).unsealings - 1) blob text →
        delegated_identity text ≡ Err error →
        kind ≡ error.error_type → UnreadCause m blob kind

  abbrev pub OpenedCause : Bool → Option C → List ℕ → ErrorKind → Type 0
  OpenedCause opened None blob kind = ⊥
  OpenedCause false (Some m) blob kind = c.refuses m (ToUnseal blob) kind
  OpenedCause true (Some m) blob kind = UnreadCause m blob kind

  module _ {P : Type 0} where
    abbrev pub BlobCause : ℕ → Option C → Option (List ℕ) → List ℕ → ServerView C P → ErrorKind →
        Type 0
    BlobCause noted None sent_nonce blob new kind = ⊥
    BlobCause noted (Some m) sent_nonce blob new kind =
        ProofCause c new.acts.checked m blob
        (prescribed Client noted (nonce_of sent_nonce) new.settings.public_key)
        (c.refuses m (ToSeal (prescribed Server noted (nonce_of sent_nonce)
        new.settings.public_key)) kind) kind

    -- the proof's field, with the nonce that came with it, in this order: presence, nonce, length,
    -- and what the blob opens to
    abbrev pub ExchangeCause : Option (List ℕ) → Option ℕ → Option (List ℕ) → ServerView C P →
        ErrorKind → Type 0
    ExchangeCause None noted sent_nonce new kind = kind ≡ InvalidToken
    ExchangeCause (Some blob) None sent_nonce new kind = ⊥
    ExchangeCause (Some blob) (Some noted) sent_nonce new kind =
        StopsIf (lacks_nonce (nat_lt noted 5) sent_nonce) InvalidToken kind
        (BlobStops (Some blob) kind (λ blob. BlobCause noted new.context sent_nonce blob new kind))

    -- Which of these are reported even when out of memory: a field that is absent or too short, an
    -- absent nonce, and an altered proof.
    abbrev pub BlobExact : ℕ → Option C → Option (List ℕ) → List ℕ → ServerView C P → ErrorKind →
        Type 0
    BlobExact noted None sent_nonce blob new kind = Unit {0}
    BlobExact noted (Some m) sent_nonce blob new kind =
        AlteredExactly c new.acts.checked m blob
        (prescribed Client noted (nonce_of sent_nonce) new.settings.public_key) kind

    abbrev pub ExchangeExact : Option (List ℕ) → Option ℕ → Option (List ℕ) → ServerView C P →
        ErrorKind → Type 0
    ExchangeExact None noted sent_nonce new kind = kind ≡ InvalidToken
    ExchangeExact (Some blob) None sent_nonce new kind = Unit {0}
    ExchangeExact (Some blob) (Some noted) sent_nonce new kind =
        StopsIf (lacks_nonce (nat_lt noted 5) sent_nonce) InvalidToken kind
        (BlobStops (Some blob) kind (λ blob. BlobExact noted new.context sent_nonce blob new kind))

    -- the authentication has ended with neither a proof nor a token; or the proof is refused
    abbrev pub AfterCause : Option (List ℕ) → Option (List ℕ) → ServerView C P → ErrorKind → Type 0
    AfterCause None sent_nonce new kind = (new.output ≡ []) × (kind ≡ InvalidToken)
    AfterCause (Some blob) sent_nonce new kind =
        ExchangeCause (Some blob) new.noted sent_nonce new kind

  -- credentials that are not opened: out of memory only if the context would open them
  abbrev pub OpenedExact : Bool → Option C → List ℕ → ErrorKind → Type 0
  OpenedExact false (Some m) blob kind = IsRefusedAs (c.permits m (ToUnseal blob))
      (c.refuses m (ToUnseal blob)) kind
  OpenedExact opened context blob kind = Unit {0}

  module _ {P : Type 0} where
    -- the kinds that are reported even when out of memory, after the version check
    abbrev pub StateExact : CredSspState → TsRequest → ServerView C P → ErrorKind → Type 0
    StateExact NegoToken d new kind = Unit {0}
    StateExact PubKeyInfo d new kind = ExchangeExact d.pub_key_auth new.noted d.client_nonce new
        kind
    StateExact AuthInfo d new kind = BlobStops d.auth_info kind
        (λ blob. OpenedExact new.acts.opened new.context blob kind)
    StateExact Final d new kind = kind ≡ UnsupportedFunction

    abbrev pub ServerExact : ServerView C P → TsRequest → ServerView C P → ErrorKind → Type 0
    ServerExact old d new kind =
        MadeOr old.context new.context (Unit {0})
        (VersionStops old.settings.least old.noted d.version kind (StateExact old.state d new kind))

  module _ {P : Type 0} (p : ProxyMeaning P) where
    -- why there is no new context: the proxy did not list its identities, or they were listed and
    -- it is not made or acquires no credentials
    pub data MakeCause (mode : ServerMode) (before now : P) (kind : ErrorKind) : Type 0 where
      unlisted : ListRefused mode (p.faults before) (p.faults now) kind →
          MakeCause mode before now kind
      unbegun : BeginCause c (ForServer mode (p.told before).entries) Inbound None kind →
          MakeCause mode before now kind

    -- The peer is not known; or it is, and the context refuses to complete: in neither case was its
    -- proof checked. Or the context is completed, and what follows is refused. Each comes with the
    -- step that the turn took of its context until then.
    pub data OverCause (status : SecurityStatus) (old : ServerView C P) (d : TsRequest)
        (new : ServerView C P)
        (kind : ErrorKind) : Type 0 where
      unknown : new.acts.checked ≡ false → HasCome c p Unknown status old d new →
          IfContext new.context (λ m. IdentifyCause m (p.told old.proxy) (p.faults old.proxy)
          (p.faults new.proxy) kind) →
          OverCause status old d new kind
      incomplete : new.acts.checked ≡ false → HasCome c p Identified status old d new →
          IfContext new.context (λ m. c.refuses m ToComplete kind) → OverCause status old d new kind
      known : HasCome c p Completed status old d new →
          AfterCause d.pub_key_auth d.client_nonce new kind → OverCause status old d new kind

    -- the context refused the step, with this error, as the clause on the step says; or the end of
    -- the authentication or its status is refused
    abbrev pub NegoCause : Option SecurityStatus → ServerView C P → TsRequest → ServerView C P →
        ErrorKind → Type 0
    NegoCause None old d new kind = new.acts.negotiated ≡ true
    NegoCause (Some statuses.ContinueNeeded) old d new kind = ⊥
    NegoCause (Some statuses.CompleteNeeded) old d new kind =
        OverCause statuses.CompleteNeeded old d new kind
    NegoCause (Some statuses.Ok) old d new kind = OverCause statuses.Ok old d new kind
    NegoCause (Some other) old d new kind = kind ≡ InternalError

    abbrev pub StateCause : CredSspState → ServerView C P → TsRequest → ServerView C P → ErrorKind →
        Type 0
    StateCause NegoToken old d new kind = NegoCause new.acts.status old d new kind
    StateCause PubKeyInfo old d new kind = ExchangeCause d.pub_key_auth new.noted d.client_nonce new
        kind
    StateCause AuthInfo old d new kind = BlobStops d.auth_info kind
        (λ blob. OpenedCause new.acts.opened new.context blob kind)
    StateCause Final old d new kind = kind ≡ UnsupportedFunction

    abbrev pub ServerCause : ServerView C P → TsRequest → ServerView C P → ErrorKind → Type 0
    ServerCause old d new kind =
        MadeOr old.context new.context (OrMemory kind
        (MakeCause old.settings.mode old.proxy new.proxy kind))
        (VersionStops old.settings.least old.noted d.version kind
        (OrMemory kind (StateCause old.state old d new kind)))
