-- How far a server has come in one call.
use Rattle.std.specs.Prelude.{◌≤◌, ◌≡◌, ℕ, ◌+◌, ◌-◌, nat_lt, true, false, List, [], Option, None}
use Rattle.std.specs.Prelude.{Some, IsSome}
use Rattle.std.specs.Prelude.{Result, Ok, Err, IsErr, IfErr, OnErr}
use Rattle.sspi_types.specs.declared.credential_use.CredentialUse.TheVariants.{Inbound}
use Rattle.sspi_types.specs.declared.error.Error.{Error}
use Rattle.sspi_types.specs.declared.error_kind.ErrorKind.TheVariants.{DowngradeDetected}
use Rattle.sspi_types.specs.declared.security_status.SecurityStatus.{SecurityStatus}
use Rattle.sspi_types.specs.declared.error_kind.ErrorKind.{ErrorKind}
use Rattle.sspi_names.specs.declared.identity.AuthIdentity.{AuthIdentity}
use Rattle.sspi_names.specs.declared.credentials.CredentialsBuffers.{CredentialsBuffers}
use Rattle.sspi_tsreq.specs.declared.request.TsRequest.{TsRequest}
use Rattle.sspi_mech.specs.Meaning.{Meaning}
use Rattle.sspi_mech.specs.declared.step.Step.{Step}
use Rattle.sspi_credssp.specs.declared.acts.Acts.{Acts}
use Rattle.sspi_credssp.specs.declared.state.CredSspState.TheVariants.{NegoToken}
use Rattle.sspi_credssp.specs.Context.{Begun, IfContext, OnContext, ContextSetting}
use Rattle.sspi_credssp.specs.Noted.{differs, is_old, noted_with}
use Rattle.sspi_credssp.specs.Proxy.{ProxyMeaning, IsTold}
use Rattle.sspi_credssp.specs.Ends.{ServerView}
use Rattle.sspi_credssp.specs.ServerTurn.{server_setting, Completed, Accepted, AcceptedSoFar}
use Rattle.sspi_credssp.specs.ServerTurn.{HoldsIdentity, KeepsHandle}
use Rattle.sspi_credssp.specs.ServerTurn.{ServerTurn, IsUnstepped}
use Rattle.sspi_credssp.specs.declared.mode.ServerMode.{ServerMode}
use Rattle.sspi_credssp.specs.declared.mode.ServerMode.TheVariants as modes
use Rattle.sspi_credssp.specs.declared.public_key.EndpointType.TheVariants.{Server}
use Rattle.sspi_credssp.specs.declared.server_negotiation.Answer.{Answer}
use Rattle.sspi_credssp.specs.declared.server_negotiation.Answer.TheVariants as answers
use Rattle.sspi_credssp.specs.Acts.{no_acts, count_of, sealings_in, unsealings_in, CountsEachAct}
use Rattle.sspi_credssp.specs.Acts.{SameBut, SealsIn}
use Rattle.sspi_credssp.specs.Requests.{error_request, version_back, IsLong, nonce_of}
use Rattle.sspi_credssp.specs.Exchange.{prescribed}
use Rattle.sspi_credssp.specs.Turn.{AtNoted, IsUnspent, OnceNegotiated, HasNonce, Proven}
use Rattle.sspi_credssp.specs.declared.turn.Outcome.TheVariants as outcome

module _ {C : Type 0} (c : Meaning ContextSetting C) where
  module _ {P : Type 0} (p : ProxyMeaning P) where
    -- once the step has ended the authentication: a call that is not refused knows its peer
    abbrev pub CompletedStep : {T : Type 0} → ServerView C P → Option CredentialsBuffers →
        Option (List ℕ) → Result Step Error →
        Result T Error → Option C → Type 0
    CompletedStep start handle token answer (Ok value) context =
        IfContext context (Accepted c p start handle token Completed answer)
    CompletedStep start handle token answer (Err error) context =
        IfContext context (AcceptedSoFar c p start handle token answer)

  module _ {P : Type 0} where
    -- checking the client's proof, and sealing the server's own if it was the right one
    pub record ServerChecks (old : ServerView C P) (d : TsRequest) (new : ServerView C P) : Type 0
      where
        pub rest : new ≡ record old { context = new.context; acts = new.acts }
        pub acts : new.acts ≡ record old.acts { checked = new.acts.checked; proved = new.acts.proved }
        pub checked : new.acts.checked ≡ true → IsLong d.pub_key_auth
            × AtNoted old.noted (λ noted. HasNonce (nat_lt noted 5) d.client_nonce)
        pub proved : new.acts.proved ≡ true → (new.acts.checked ≡ true) ×
            AtNoted old.noted (Proven c new.context (unsealings_in c new.context - 1)
            old.settings.public_key d)
        pub sealings : sealings_in c new.context ≡ sealings_in c old.context + count_of
            new.acts.proved
        pub unsealings : unsealings_in c new.context ≡ unsealings_in c old.context + count_of
            new.acts.checked
        pub bare : SameBut c old.context new.context

    -- a call that is refused before or by the version check keeps what the server had, or the new
    -- context
    pub record BeginRefused (old : ServerView C P) (version : ℕ) (new : ServerView C P) : Type 0
      where
        pub handle : KeepsHandle c old new
        pub noted : IsSome new.context → new.noted ≡ noted_with old.settings.least old.noted version
        pub unnoted : new.context ≡ None → new.noted ≡ old.noted
        pub unstepped : IsUnstepped c old new
        pub back : (own : ℕ) → version_back new.context new.noted version own ≡ version
        pub counts : CountsEachAct c old.state old.context no_acts new.context
        pub bare : OnceNegotiated old.state (SameBut c old.context new.context)

module _ {P : Type 0} (p : ProxyMeaning P) where
  -- the same proxy, perhaps some calls later
  pub record IsLater (before now : P) : Type 0 where
    pub told_same : p.told now ≡ p.told before
    pub faults_stay : p.faults before ≤ p.faults now

-- it is about to take the step: its proxy exposes the same as before the call, and its context is
-- the one that it had then, or a new one
pub record IsAtStep {C P : Type 0} (c : Meaning ContextSetting C) (p : ProxyMeaning P)
    (start now : ServerView C P) : Type 0 where
  pub later : IsLater p start.proxy now.proxy
  pub begun : IfContext now.context (Begun c start.context start.handle (server_setting p start)
      Inbound None now.handle)

-- it has a context and has pinned its client's version, and `did` is what this call did
pub record HasDone {C P : Type 0} (did : Acts) (now : ServerView C P) : Type 0 where
  pub acts : now.acts ≡ did
  pub begun : IsSome now.context
  pub noted : IsSome now.noted

-- its context was given a token, and reached this status, or none
pub record HasReached {C P : Type 0} (came : Option SecurityStatus) (now : ServerView C P) : Type 0
  where
    pub begun : IsSome now.context
    pub negotiated : now.acts.negotiated ≡ true
    pub status : now.acts.status ≡ came

-- what follows a step's answer keeps that answer, and advances only if it is not refused
pub record KeepsStep {C P T E : Type 0} (old : ServerView C P) (result : Result T E)
    (new : ServerView C P) : Type 0 where
  pub version : new.settings.version ≡ old.settings.version
  pub handle : new.handle ≡ old.handle
  pub output : new.output ≡ old.output
  pub state : OnErr result (new.state ≡ old.state)

-- How it checks a version, once it has a context: a changed one is refused and changes nothing, and
-- one that is too old has its own kind.
pub record LooksAt {C P T : Type 0} (version : ℕ) (old : ServerView C P) (result : Result T Error)
    (new : ServerView C P) : Type 0 where
  pub altered : differs old.noted version ≡ true → IsErr result × (new ≡ old)
  pub too_old : IfErr result (λ error. IsSome new.context →
      is_old old.settings.least old.noted version ≡ true →
      error.error_type ≡ DowngradeDetected)

-- A context is the one that it had, or a new one that has acquired credentials, with which the
-- authentication begins; if there is none, it only asked its proxy.
pub record MakesContext {C P : Type 0} (c : Meaning ContextSetting C) (p : ProxyMeaning P)
    (old new : ServerView C P) : Type 0 where
  pub fresh : old.context ≡ None → old.state ≡ NegoToken
  pub made : OnContext new.context (Begun c old.context old.handle (server_setting p old) Inbound
      None new.handle)
  pub unmade : new.context ≡ None → new ≡ record old { proxy = new.proxy }

-- the peers that a context is made with: those that the proxy exposes, if it does, and nobody
-- without a negotiation
abbrev pub IsListed : ServerMode → Option (List AuthIdentity) → List AuthIdentity → Type 0
IsListed (modes.Negotiate config) told known = IsTold told known
IsListed (modes.Ntlm config) told known = known ≡ []

-- what an authentication sends back: a token, or the server's proof
abbrev pub answered_by : TsRequest → Answer → TsRequest
answered_by d (answers.Token token) = record d { nego_tokens = Some token }
answered_by d (answers.Proof blob) = record d { nego_tokens = None; pub_key_auth = Some blob }

module _ {C : Type 0} (c : Meaning ContextSetting C) where
  module _ {P : Type 0} where
    -- A turn on d that began at `start` has passed the version check. What follows is about the
    -- context as it is now.
    pub record IsReady (start : ServerView C P) (d : TsRequest) (now : ServerView C P) : Type 0
      where
        pub same : now.settings ≡ start.settings
        pub handle : KeepsHandle c start now
        pub state : now.state ≡ start.state
        pub noted : now.noted ≡ noted_with start.settings.least start.noted d.version
        pub fits : AtNoted now.noted (λ noted. d.version ≡ noted)
        pub young : is_old start.settings.least start.noted d.version ≡ false
        pub passed : differs start.noted d.version ≡ false
        pub begun : IsSome now.context
        pub unspent : IsUnspent c start.state start.context now.context

    pub record ServerProves (old : ServerView C P) (d : TsRequest) (blob : List ℕ)
        (new : ServerView C P) : Type 0 where
      pub checked : new.acts.checked ≡ true
      pub proved : new.acts.proved ≡ true
      pub proof : AtNoted old.noted (λ noted.
          SealsIn c new.context (sealings_in c new.context - 1)
          (prescribed Server noted (nonce_of d.client_nonce) old.settings.public_key)
          (Some blob))

    abbrev pub ServerExchanges : ServerView C P → TsRequest → Result (List ℕ) Error →
        ServerView C P → Type 0
    ServerExchanges old d (Ok blob) new = ServerChecks c old d new × ServerProves old d blob new
    ServerExchanges old d (Err error) new = ServerChecks c old d new

    -- opening the client's credentials
    pub record ServerOpensBlob (old : ServerView C P) (field : Option (List ℕ))
        (new : ServerView C P) : Type 0 where
      pub rest : new ≡ record old { context = new.context; acts = new.acts }
      pub acts : new.acts ≡ record no_acts { opened = new.acts.opened }
      pub opened : new.acts.opened ≡ true → IsLong field
      pub sealings : sealings_in c new.context ≡ sealings_in c old.context
      pub unsealings : unsealings_in c new.context ≡ unsealings_in c old.context + count_of
          new.acts.opened
      pub bare : SameBut c old.context new.context

    abbrev pub ServerOpens : ServerView C P → Option (List ℕ) → Result AuthIdentity Error →
        ServerView C P → Type 0
    ServerOpens old field (Ok identity) new =
        ServerOpensBlob old field new × (new.acts.opened ≡ true) ×
        HoldsIdentity c new.context field identity
    ServerOpens old field (Err error) new = ServerOpensBlob old field new

    -- a turn refused after the version check, with the request that reports it to the client
    abbrev pub HaltedTurn : ServerView C P → TsRequest → ErrorKind → ServerView C P → Type 0
    HaltedTurn old d kind new = ServerTurn c old d
        (outcome.Refused kind (Some (error_request old.state new.settings.version kind d))) new

    abbrev pub Answered : ServerView C P → TsRequest → Result Answer Error → ServerView C P → Type 0
    Answered old d (Ok answer) new =
        ServerTurn c old d (outcome.Reply (answered_by (record d { version = new.settings.version })
        answer)) new
    Answered old d (Err error) new = HaltedTurn old d error.error_type new
