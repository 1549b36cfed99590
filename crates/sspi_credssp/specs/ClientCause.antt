-- Why a client's turn was refused, in the order of its checks. What it finds before it allocates is
-- reported even when out of memory.
use Rattle.std.specs.Prelude.{◌≡◌, ℕ, List, Option, None, Some, Result, Ok, Err, true, not}
use Rattle.std.specs.Prelude.{if◌then◌else◌}
use Rattle.sspi_types.specs.declared.credential_use.CredentialUse.TheVariants.{Outbound}
use Rattle.sspi_types.specs.declared.error.Error.{Error}
use Rattle.sspi_types.specs.declared.error_kind.ErrorKind.{ErrorKind}
use Rattle.sspi_types.specs.declared.error_kind.ErrorKind.TheVariants.{OutOfSequence, InvalidToken}
use Rattle.sspi_types.specs.declared.error_kind.ErrorKind.TheVariants.{InternalError}
use Rattle.sspi_types.specs.declared.nstatus.NStatusCode.{NStatusCode}
use Rattle.sspi_types.specs.declared.security_status.SecurityStatus.{SecurityStatus}
use Rattle.sspi_types.specs.declared.security_status.SecurityStatus.TheVariants as statuses
use Rattle.sspi_tsreq.specs.declared.request.TsRequest.{TsRequest}
use Rattle.sspi_mech.specs.Calls.{ToSeal}
use Rattle.sspi_mech.specs.Meaning.{Meaning}
use Rattle.sspi_credssp.specs.declared.public_key.EndpointType.TheVariants.{Client, Server}
use Rattle.sspi_credssp.specs.declared.state.CredSspState.{CredSspState}
use Rattle.sspi_credssp.specs.declared.state.CredSspState.TheVariants.{NegoToken, PubKeyInfo}
use Rattle.sspi_credssp.specs.declared.state.CredSspState.TheVariants.{AuthInfo, Final}
use Rattle.sspi_credssp.specs.Context.{BeginCause, MadeOr, ContextSetting, ForClient}
use Rattle.sspi_credssp.specs.Ends.{ClientView}
use Rattle.sspi_credssp.specs.Acts.{is_waiting_in}
use Rattle.sspi_credssp.specs.Exchange.{delegated_text, AlteredExactly, BlobStops, ProofCause}
use Rattle.sspi_credssp.specs.Exchange.{prescribed}
use Rattle.sspi_credssp.specs.Noted.{StopsIf, VersionStopsIn, OrMemory}
use Rattle.sspi_credssp.specs.Requests.{is_code}

module _ {C : Type 0} (c : Meaning ContextSetting C) where
  -- the NTSTATUS code of a refusal: the peer's error code, if that is the reason
  abbrev pub status_of : ClientView C → TsRequest → Option NStatusCode
  status_of old d = if is_waiting_in c old.context then None
      else (if is_code d.error_code then d.error_code else None)

  -- the credentials have no text, or are not sealed
  abbrev pub SealsCause : C → Result (List ℕ) Error → ErrorKind → Type 0
  SealsCause m (Ok text) kind = c.refuses m (ToSeal text) kind
  SealsCause m (Err error) kind = kind ≡ error.error_type

  abbrev pub BlobOpens : Option ℕ → Option C → List ℕ → ClientView C → ErrorKind → Type 0
  BlobOpens (Some noted) (Some m) blob new kind =
      ProofCause c new.acts.checked m blob
      (prescribed Server noted new.settings.nonce new.settings.public_key)
      (SealsCause m (delegated_text new.settings.credentials new.settings.delegation) kind) kind
  BlobOpens noted context blob new kind = ⊥

  -- pubKeyAuth is absent or too short, or opening it, or what follows, is refused
  abbrev pub DeliverCause : Option (List ℕ) → ClientView C → ErrorKind → Type 0
  DeliverCause field new kind = BlobStops field kind
      (λ blob. BlobOpens new.noted new.context blob new kind)

  -- Which of these are reported even when out of memory: a field that is absent or too short, and
  -- an altered proof.
  abbrev pub BlobExact : Option ℕ → Option C → List ℕ → ClientView C → ErrorKind → Type 0
  BlobExact (Some noted) (Some m) blob new kind =
      AlteredExactly c new.acts.checked m blob
      (prescribed Server noted new.settings.nonce new.settings.public_key) kind
  BlobExact noted context blob new kind = Unit {0}

  abbrev pub DeliverExact : Option (List ℕ) → ClientView C → ErrorKind → Type 0
  DeliverExact field new kind = BlobStops field kind
      (λ blob. BlobExact new.noted new.context blob new kind)

  -- the authentication ended before a version was pinned, or the proof is not sealed
  abbrev pub ProveCause : Option ℕ → Option C → ClientView C → ErrorKind → Type 0
  ProveCause None context new kind = kind ≡ InternalError
  ProveCause (Some noted) None new kind = ⊥
  ProveCause (Some noted) (Some m) new kind =
      c.refuses m (ToSeal (prescribed Client noted new.settings.nonce new.settings.public_key)) kind

  -- the context refused the step, with this error, as the clause on the step says; or the end of
  -- the authentication is refused
  abbrev pub NegoCause : Option SecurityStatus → ClientView C → ErrorKind → Type 0
  NegoCause None new kind = new.acts.negotiated ≡ true
  NegoCause (Some statuses.Ok) new kind = ProveCause new.noted new.context new kind
  NegoCause (Some other) new kind = ⊥

  abbrev pub StateCause : CredSspState → TsRequest → ClientView C → ErrorKind → Type 0
  StateCause NegoToken d new kind = NegoCause new.acts.status new kind
  StateCause PubKeyInfo d new kind = kind ≡ OutOfSequence
  StateCause AuthInfo d new kind = DeliverCause d.pub_key_auth new kind
  StateCause Final d new kind = kind ≡ OutOfSequence

  abbrev pub ClientCause : ClientView C → TsRequest → ClientView C → ErrorKind → Type 0
  ClientCause old d new kind =
      StopsIf (is_waiting_in c old.context) OutOfSequence kind
      (StopsIf (is_code d.error_code) InvalidToken kind
      (VersionStopsIn old.context old.settings.least old.noted d.version kind
      (OrMemory kind
      (MadeOr old.context new.context (BeginCause c (ForClient old.settings.mode) Outbound
      (Some old.settings.credentials) kind)
      (StateCause old.state d new kind)))))

  -- the kinds that are reported even when out of memory, after the version check
  abbrev pub StateExact : CredSspState → TsRequest → ClientView C → ErrorKind → Type 0
  StateExact NegoToken d new kind = Unit {0}
  StateExact PubKeyInfo d new kind = kind ≡ OutOfSequence
  StateExact AuthInfo d new kind = DeliverExact d.pub_key_auth new kind
  StateExact Final d new kind = kind ≡ OutOfSequence

  abbrev pub ClientExact : ClientView C → TsRequest → ClientView C → ErrorKind → Type 0
  ClientExact old d new kind =
      StopsIf (is_waiting_in c old.context) OutOfSequence kind
      (StopsIf (is_code d.error_code) InvalidToken kind
      (VersionStopsIn old.context old.settings.least old.noted d.version kind
      (MadeOr old.context new.context (Unit {0}) (StateExact old.state d new kind))))

  abbrev pub KeptCause : Option TsRequest → ClientView C → ErrorKind → Type 0
  KeptCause None new kind = kind ≡ OutOfSequence
  KeptCause (Some request) new kind = NegoCause new.acts.status new kind

  -- why a resume was refused; the request of a suspended turn is kept
  abbrev pub ResumeCause : ClientView C → ClientView C → ErrorKind → Type 0
  ResumeCause old new kind = StopsIf (not (is_waiting_in c old.context)) OutOfSequence kind
      (OrMemory kind (KeptCause old.kept new kind))
