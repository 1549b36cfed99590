-- A server's turn (MS-CSSP 3.1.5.2), with the step of its context.
use Rattle.std.specs.Prelude.{◌≡◌, ◌≢◌, ℕ, List, [], map, Option, None, Some, Result, Ok, Err, Bool}
use Rattle.std.specs.Prelude.{true, false, ◌-◌, IsSome}
use Rattle.sspi_types.specs.declared.credential_use.CredentialUse.TheVariants.{Inbound}
use Rattle.sspi_types.specs.declared.data_representation.DataRepresentation.TheVariants as representations
use Rattle.sspi_types.specs.declared.error.Error.{Error}
use Rattle.sspi_types.specs.declared.security_status.SecurityStatus.{SecurityStatus}
use Rattle.sspi_types.specs.declared.security_status.SecurityStatus.TheVariants as statuses
use Rattle.sspi_types.specs.declared.server_request_flags.ServerRequestFlags.{ServerRequestFlags}
use Rattle.sspi_names.specs.declared.credentials.Credentials.TheVariants as credentials
use Rattle.sspi_names.specs.declared.credentials.CredentialsBuffers.{CredentialsBuffers}
use Rattle.sspi_names.specs.declared.identity.AuthIdentity.{AuthIdentity}
use Rattle.sspi_names.specs.Name.{Name}
use Rattle.sspi_tsreq.specs.declared.request.TsRequest.{TsRequest}
use Rattle.sspi_mech.specs.declared.step.Step.{Step}
use Rattle.sspi_mech.specs.Calls.{AcceptArgs, Counts, ToComplete}
use Rattle.sspi_mech.specs.Meaning.{Meaning}
use Rattle.sspi_credssp.specs.declared.public_key.EndpointType.TheVariants.{Server}
use Rattle.sspi_credssp.specs.declared.server_state.ServerError.{ServerError}
use Rattle.sspi_credssp.specs.declared.server_state.ServerState.{ServerState}
use Rattle.sspi_credssp.specs.declared.server_state.ServerState.TheVariants as ends
use Rattle.sspi_credssp.specs.declared.state.CredSspState.{CredSspState}
use Rattle.sspi_credssp.specs.declared.state.CredSspState.TheVariants.{NegoToken, PubKeyInfo}
use Rattle.sspi_credssp.specs.declared.state.CredSspState.TheVariants.{AuthInfo, Final}
use Rattle.sspi_credssp.specs.declared.turn.End.TheVariants.{Server}
use Rattle.sspi_credssp.specs.declared.turn.Outcome.{Outcome}
use Rattle.sspi_credssp.specs.declared.turn.Outcome.TheVariants as outcome
use Rattle.sspi_credssp.specs.declared.turn.Turn.{Turn}
use Rattle.sspi_credssp.specs.Acts.{silent, sealings_in, unsealings_in, CountsEachAct, SameBut}
use Rattle.sspi_credssp.specs.Acts.{cleared}
use Rattle.sspi_credssp.specs.Context.{Begun, IfContext, OnContext, ContextSetting, ForServer}
use Rattle.sspi_credssp.specs.Ends.{ServerView}
use Rattle.sspi_credssp.specs.Exchange.{OpensIdentity}
use Rattle.sspi_credssp.specs.Noted.{noted_with}
use Rattle.sspi_credssp.specs.Proxy.{ProxyMeaning, ProxyTells, AreFound}
use Rattle.sspi_credssp.specs.Requests.{token_of}
use Rattle.sspi_credssp.specs.Turn.{HoldsServer, server_shown, ShowsServer, UnlessRefused}
use Rattle.sspi_credssp.specs.Turn.{IfRefused, ServerFrame, OnceNegotiated}

-- ---- The step of the context in a server's turn, from the context before it to the one after.

-- a server asks for no attributes
abbrev pub server_requirements : ServerRequestFlags
server_requirements = record { 0 = 0 }

abbrev pub server_args : Option CredentialsBuffers → Option (List ℕ) → AcceptArgs
server_args handle token = record {
  handle = handle;
  requirements = server_requirements;
  representation = representations.Native;
  input = token_of token;
}

-- the answer of a step that reached a status, or of a refused one
abbrev pub refused_step : Option SecurityStatus → List ℕ → Error → Result Step Error
refused_step None output error = Err error
refused_step (Some status) output error = Ok (record { status = status; output = output })

-- how far a server knows its peer
pub data Knowing : Type 0 where
  Unknown : Knowing
  Identified : Knowing
  Completed : Knowing

-- what a server's context is made of
abbrev pub server_setting : {C P : Type 0} → ProxyMeaning P → ServerView C P → ContextSetting
server_setting p start = ForServer start.settings.mode (p.told start.proxy).entries

module _ {C : Type 0} (c : Meaning ContextSetting C) where
  -- the peer's name was looked up, some identities were found, and the context took one of them
  pub data IsIdentified (tells : ProxyTells) (m m2 : C) : Type 0 where
    is_identified : (name : Name) (identities : List AuthIdentity) → c.names m ≡ Some name →
        AreFound tells name identities →
        identities ≢ [] → c.identifies m (map credentials.AuthIdentity identities) m2 →
        IsIdentified tells m m2

  module _ {P : Type 0} (p : ProxyMeaning P) where
    -- a call that made a context and took no step made it with what the proxy lists
    abbrev pub MakesAlone : ServerView C P → ServerView C P → Type 0
    MakesAlone old new = new.acts.negotiated ≡ false → old.context ≡ None →
        OnContext new.context (Begun c old.context old.handle (server_setting p old) Inbound None
        new.handle)

    -- A step of the turn that began at `start`: how far the server then knows its peer, the step's
    -- answer, and the context. Apart from that, only sealing and opening change the context.
    pub data Accepted (start : ServerView C P) (handle : Option CredentialsBuffers)
        (token : Option (List ℕ)) :
        Knowing → Result Step Error → C → Type 0 where
      accepted : (m0 m : C) (answer : Result Step Error) →
          Begun c start.context start.handle (server_setting p start) Inbound None handle m0 →
          c.accepts m0 (server_args handle token) answer m →
          Accepted start handle token Unknown answer m
      identified : (m m2 : C) (answer : Result Step Error) →
          Accepted start handle token Unknown answer m →
          IsIdentified (p.told start.proxy) m m2 → Accepted start handle token Identified answer m2
      completed : (m : C) (answer : Result Step Error) →
          Accepted start handle token Identified answer m →
          c.permits m ToComplete → Accepted start handle token Completed answer m
      recounted : (m m2 : C) (n : Counts) (known : Knowing) (answer : Result Step Error) →
          Accepted start handle token known answer m →
          m2 ≡ c.counted m n → silent n ≡ silent (c.counts m) →
          Accepted start handle token known answer m2

    -- however far it knows its peer
    pub data AcceptedSoFar (start : ServerView C P) (handle : Option CredentialsBuffers)
        (token : Option (List ℕ))
        (answer : Result Step Error) (m : C) : Type 0 where
      so_far : (known : Knowing) → Accepted start handle token known answer m →
          AcceptedSoFar start handle token answer m

    -- how far a refused call had come: a peer is looked up only once the step has ended the
    -- authentication
    abbrev pub RefusedAt : Option SecurityStatus → ServerView C P → Option CredentialsBuffers →
        Option (List ℕ) → Result Step Error → C →
        Type 0
    RefusedAt (Some statuses.Ok) start handle token answer m =
        AcceptedSoFar start handle token answer m
    RefusedAt (Some statuses.CompleteNeeded) start handle token answer m =
        AcceptedSoFar start handle token answer m
    RefusedAt other start handle token answer m = Accepted start handle token Unknown answer m

    -- a reply at the end of the authentication is made only once the peer is known and the context
    -- completed
    abbrev pub known_at : SecurityStatus → Knowing
    known_at statuses.Ok = Completed
    known_at statuses.CompleteNeeded = Completed
    known_at other = Unknown

    -- the turn knows its peer this far, and its step reached this status and the output
    abbrev pub HasCome : Knowing → SecurityStatus → ServerView C P → TsRequest → ServerView C P →
        Type 0
    HasCome known status start d now = IfContext now.context
        (Accepted start now.handle d.nego_tokens known
        (Ok (record { status = status; output = now.output })))

    abbrev pub DoneStep : Option SecurityStatus → ServerView C P → TsRequest → ServerView C P →
        Type 0
    DoneStep None start d now = Unit {0}
    DoneStep (Some status) start d now = HasCome (known_at status) status start d now

    abbrev pub OnStep : Bool → Type 0 → Type 0
    OnStep true Q = Q
    OnStep false Q = Unit {0}

    -- The status and the output are the step's own answer, even if the turn was then refused; and a
    -- refused step was refused with exactly this error.
    abbrev pub HasAccepted : {T : Type 0} → ServerView C P → TsRequest → Result T Error →
        ServerView C P → Type 0
    HasAccepted start d (Ok value) now = DoneStep now.acts.status start d now
    HasAccepted start d (Err error) now = OnStep now.acts.negotiated
        (IfContext now.context (RefusedAt now.acts.status start now.handle d.nego_tokens
        (refused_step now.acts.status now.output error)))

    -- of a call that returns the request with its refusal
    abbrev pub HasAcceptedTurn : ServerView C P → TsRequest → Result ServerState ServerError →
        ServerView C P → Type 0
    HasAcceptedTurn start d (Ok state) now = DoneStep now.acts.status start d now
    HasAcceptedTurn start d (Err refusal) now =
        HasAccepted {T = ServerState} start d (Err refusal.error) now

-- ---- A server's turn (MS-CSSP 3.1.5.2).

-- the state after a turn: a reply with a proof is answered by the credentials, one at the end of
-- the authentication by the client's proof
abbrev pub after_status : Option SecurityStatus → CredSspState
after_status (Some statuses.ContinueNeeded) = NegoToken
after_status other = PubKeyInfo

abbrev pub after_reply : CredSspState → Bool → Option SecurityStatus → CredSspState
after_reply state true status = AuthInfo
after_reply NegoToken false status = after_status status
after_reply state false status = state

abbrev pub server_state_after : CredSspState → Outcome → Bool → Option SecurityStatus → CredSspState
server_state_after state (outcome.Reply reply) proved status = after_reply state proved status
server_state_after state (outcome.Final reply) proved status = state
server_state_after state outcome.Finished proved status = Final
server_state_after state (outcome.Refused kind reply) proved status = state

module _ {C : Type 0} (c : Meaning ContextSetting C) where
  -- what its bytes can show, and what they must be made from
  pub record IsServerTurn (f : ServerFrame C) (t : Turn) : Type 0 where
    pub shown : ShowsServer (server_shown f) t
    pub held : HoldsServer c f t

  -- the same context except for its counts; or there was none, and this holds of a new one
  abbrev pub UnlessMade : Option C → Option C → (C → Type 0) → Type 0
  UnlessMade None None Made = Unit {0}
  UnlessMade None (Some m) Made = Made m
  UnlessMade (Some m) None Made = ⊥
  UnlessMade (Some m) (Some m2) Made = cleared c m2 ≡ cleared c m

  -- the field was the last that the context opened, and it holds this identity
  abbrev pub HoldsIdentity : Option C → Option (List ℕ) → AuthIdentity → Type 0
  HoldsIdentity None field identity = ⊥
  HoldsIdentity (Some m) None identity = ⊥
  HoldsIdentity (Some m) (Some blob) identity = OpensIdentity c m blob identity

  module _ {P : Type 0} where
    -- the frame of one call: a turn seals at most one text and opens at most one blob, each the
    -- last of the context
    abbrev pub server_frame : ServerView C P → ServerView C P → ServerFrame C
    server_frame old new = record {
      settings = new.settings;
      state = old.state;
      made = sealings_in c new.context - 1;
      opened = unsealings_in c new.context - 1;
      looks = true;
      noted = new.noted;
      context = new.context;
    }

    abbrev pub server_turn : TsRequest → Outcome → ServerView C P → Turn
    server_turn d out new = record {
      end = Server;
      delivered = d;
      acts = new.acts;
      output = new.output;
      outcome = out;
    }

    -- a context and the credentials that it acquired are kept
    abbrev pub KeepsHandle : ServerView C P → ServerView C P → Type 0
    KeepsHandle old new = IsSome old.context → (new.handle ≡ old.handle) × IsSome new.context

    -- the context is the one that the server had, or a new one that has acquired credentials
    pub data IsNew (old new : ServerView C P) (m : C) : Type 0 where
      is_made : (told : Option (List AuthIdentity)) →
          Begun c old.context old.handle (ForServer old.settings.mode told) Inbound None new.handle
          m → IsNew old new m

    abbrev pub IsUnstepped : ServerView C P → ServerView C P → Type 0
    IsUnstepped old new = UnlessMade old.context new.context (IsNew old new)

    -- how a turn changes the server
    pub record ServerMoves (old : ServerView C P) (d : TsRequest) (out : Outcome)
        (new : ServerView C P) : Type 0 where
      pub same : new.settings ≡ old.settings
      pub handle : KeepsHandle old new
      pub state : new.state ≡ server_state_after old.state out new.acts.proved new.acts.status
      pub noted : IsSome new.context → new.noted ≡ noted_with old.settings.least old.noted d.version
      pub unnoted : new.context ≡ None → new.noted ≡ old.noted
      pub begun : UnlessRefused out (IsSome new.context)
      pub noted_proved : new.acts.proved ≡ true →
          new.noted ≡ noted_with old.settings.least old.noted d.version
      pub noted_checked : new.acts.checked ≡ true →
          new.noted ≡ noted_with old.settings.least old.noted d.version
      pub noted_opened : new.acts.opened ≡ true →
          new.noted ≡ noted_with old.settings.least old.noted d.version
      pub counts : CountsEachAct c old.state old.context new.acts new.context
      -- the context takes no step past the authentication
      pub bare : OnceNegotiated old.state (SameBut c old.context new.context)
      -- a call that took no step makes at most a context, or changes only its counts; and one whose
      -- step gave no answer has no token
      pub unstepped : new.acts.negotiated ≡ false → IsUnstepped old new
      pub unanswered : new.acts.status ≡ None → new.output ≡ []
      -- once its proof is sealed, a call is not refused
      pub ended : IfRefused out (new.acts.proved ≡ false)

    pub record ServerTurn (old : ServerView C P) (d : TsRequest) (out : Outcome)
        (new : ServerView C P) : Type 0 where
      pub turn : IsServerTurn (server_frame old new) (server_turn d out new)
      pub moves : ServerMoves old d out new

    abbrev pub EndedTurn : ServerView C P → TsRequest → ServerState → ServerView C P → Type 0
    EndedTurn old d (ends.ReplyNeeded reply) new = ServerTurn old d (outcome.Reply reply) new
    EndedTurn old d (ends.Finished identity) new =
        ServerTurn old d outcome.Finished new × HoldsIdentity new.context d.auth_info identity

    abbrev pub ServerGoes : ServerView C P → TsRequest → Result ServerState ServerError →
        ServerView C P → Type 0
    ServerGoes old d (Ok state) new = EndedTurn old d state new
    ServerGoes old d (Err refusal) new = ServerTurn old d
        (outcome.Refused refusal.error.error_type refusal.ts_request) new
