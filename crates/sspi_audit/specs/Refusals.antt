-- The kinds with which a turn with these effects can have been refused, as far as bytes show it
-- (MS-CSSP 3.1.5). An end checks in a fixed order: the reported error (a client only), the version,
-- what its state needs. A check before it allocates or calls its context has one kind; a context
-- may refuse with any. Once an end has sealed what it owes, its turn is not refused.
use Rattle.std.specs.Prelude.{◌≡◌, ◌⊎◌, ℕ, Option, None, Some, Bool, true, false, nat_lt}
use Rattle.sspi_types.specs.declared.error_kind.ErrorKind.{ErrorKind}
use Rattle.sspi_types.specs.declared.error_kind.ErrorKind.TheVariants.{DowngradeDetected}
use Rattle.sspi_types.specs.declared.error_kind.ErrorKind.TheVariants.{InternalError}
use Rattle.sspi_types.specs.declared.error_kind.ErrorKind.TheVariants.{InvalidParameter}
use Rattle.sspi_types.specs.declared.error_kind.ErrorKind.TheVariants.{InvalidToken}
use Rattle.sspi_types.specs.declared.error_kind.ErrorKind.TheVariants.{MessageAltered}
use Rattle.sspi_types.specs.declared.error_kind.ErrorKind.TheVariants.{OutOfSequence}
use Rattle.sspi_types.specs.declared.error_kind.ErrorKind.TheVariants.{UnsupportedFunction}
use Rattle.sspi_types.specs.declared.security_status.SecurityStatus.{SecurityStatus}
use Rattle.sspi_types.specs.declared.security_status.SecurityStatus.TheVariants as statuses
use Rattle.sspi_tsreq.specs.declared.request.TsRequest.{TsRequest}
use Rattle.sspi_credssp.specs.declared.acts.Acts.{Acts}
use Rattle.sspi_credssp.specs.declared.state.CredSspState.{CredSspState}
use Rattle.sspi_credssp.specs.declared.state.CredSspState.TheVariants.{NegoToken, PubKeyInfo}
use Rattle.sspi_credssp.specs.declared.state.CredSspState.TheVariants.{AuthInfo, Final}
use Rattle.sspi_credssp.specs.declared.turn.Turn.{Turn}
use Rattle.sspi_credssp.specs.Acts.{no_acts}
use Rattle.sspi_credssp.specs.Exchange.{BlobStops}
use Rattle.sspi_credssp.specs.Noted.{StopsIf, OrMemory, differs}
use Rattle.sspi_credssp.specs.Requests.{is_code}
use Rattle.sspi_credssp.specs.ServerCause.{lacks_nonce}
use Rattle.sspi_credssp.specs.Turn.{ShownFrame}

-- f: what is known of the end before the turn. A client looks at versions from its second turn on;
-- a server has pinned one by then.

-- ---- a client (MS-CSSP 3.1.5.1)

-- the server's first version is too old: the client looks at it in its second turn, and then does
-- nothing
pub record FindsOldServer (f : ShownFrame) (t : Turn) (kind : ErrorKind) : Type 0 where
  pub looks : f.looks ≡ true
  pub unnoted : f.noted ≡ None
  pub acts : t.acts ≡ no_acts
  pub downgrade : kind ≡ DowngradeDetected

-- during authentication: the step was refused, or in the first turn no context was made; or the
-- client was authenticated but made no proof, which in the first turn means that no version was
-- pinned
abbrev pub TokenRefused : ShownFrame → Acts → Option SecurityStatus → ErrorKind → Type 0
TokenRefused f acts None kind = acts.negotiated ≡ false → f.looks ≡ false
TokenRefused f acts (Some statuses.Ok) kind = f.looks ≡ false → kind ≡ InternalError
TokenRefused f acts (Some other) kind = ⊥

-- after it: the server's proof is absent, too short or refused; or the client sent its last message
abbrev pub ClientStateRefuses : ShownFrame → Turn → CredSspState → ErrorKind → Type 0
ClientStateRefuses f t NegoToken kind = OrMemory kind (TokenRefused f t.acts t.acts.status kind)
ClientStateRefuses f t PubKeyInfo kind = kind ≡ OutOfSequence
ClientStateRefuses f t AuthInfo kind = BlobStops t.delivered.pub_key_auth kind (λ blob. Unit {0})
ClientStateRefuses f t Final kind = kind ≡ OutOfSequence

abbrev pub ClientStops : ShownFrame → Turn → ErrorKind → Type 0
ClientStops f t kind =
    StopsIf (is_code t.delivered.error_code) InvalidToken kind
    (StopsIf (differs f.noted t.delivered.version) MessageAltered kind
    (FindsOldServer f t kind ⊎ ClientStateRefuses f t f.state kind))

abbrev pub ClientRefuses : ShownFrame → Turn → ErrorKind → Type 0
ClientRefuses f t kind = ((t.acts.sealed ≡ false) × (t.acts.proved ≡ false)) × ClientStops f t kind

-- ---- a server (MS-CSSP 3.1.5.2)

-- during authentication: the step was refused, or in the first turn no context was made, or the
-- client's version was too old; or the client was authenticated and its name or its proof refused;
-- or the step ended with a status with which no server goes on
abbrev pub TokenRefusedBack : ShownFrame → Acts → Option SecurityStatus → ErrorKind → Type 0
TokenRefusedBack f acts None kind = acts.negotiated ≡ false → f.noted ≡ None
TokenRefusedBack f acts (Some statuses.ContinueNeeded) kind = ⊥
TokenRefusedBack f acts (Some statuses.CompleteNeeded) kind = Unit {0}
TokenRefusedBack f acts (Some statuses.Ok) kind = Unit {0}
TokenRefusedBack f acts (Some other) kind = kind ≡ InternalError

-- the client's proof is absent, lacks a nonce from version 5 on, is too short, or is refused
abbrev pub ProofRefusedBack : Option ℕ → TsRequest → ErrorKind → Type 0
ProofRefusedBack None d kind = ⊥
ProofRefusedBack (Some noted) d kind =
    StopsIf (lacks_nonce (nat_lt noted 5) d.client_nonce) InvalidToken kind
    (BlobStops d.pub_key_auth kind (λ blob. Unit {0}))

-- the opened credentials are not TSCredentials, not a password, not UTF-16, or not a name (MS-CSSP
-- 2.2.1.2)
abbrev pub AreUnreadable : ErrorKind → Type 0
AreUnreadable kind = (kind ≡ InvalidToken) ⊎
    ((kind ≡ UnsupportedFunction) ⊎ (kind ≡ InvalidParameter))

abbrev pub OpenedRefused : Bool → ErrorKind → Type 0
OpenedRefused false kind = Unit {0}
OpenedRefused true kind = OrMemory kind (AreUnreadable kind)

abbrev pub ServerStateRefuses : ShownFrame → Turn → CredSspState → ErrorKind → Type 0
ServerStateRefuses f t NegoToken kind = OrMemory kind (TokenRefusedBack f t.acts t.acts.status kind)
ServerStateRefuses f t PubKeyInfo kind = ProofRefusedBack f.noted t.delivered kind
ServerStateRefuses f t AuthInfo kind = BlobStops t.delivered.auth_info kind
    (λ blob. OpenedRefused t.acts.opened kind)
ServerStateRefuses f t Final kind = kind ≡ UnsupportedFunction

abbrev pub ServerStops : ShownFrame → Turn → ErrorKind → Type 0
ServerStops f t kind = StopsIf (differs f.noted t.delivered.version) MessageAltered kind
    (ServerStateRefuses f t f.state kind)

abbrev pub ServerRefuses : ShownFrame → Turn → ErrorKind → Type 0
ServerRefuses f t kind = (t.acts.proved ≡ false) × ServerStops f t kind
