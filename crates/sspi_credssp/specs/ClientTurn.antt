-- A client's turn (MS-CSSP 3.1.5.1), with the step of its context.
use Rattle.std.specs.Prelude.{◌≡◌, ℕ, ◌+◌, List, [], ◌∷◌, Option, None, Some, Result, Ok, Err, Bool}
use Rattle.std.specs.Prelude.{true, false, ◌-◌, ◌||◌, is_some}
use Rattle.std.specs.Prelude.{IsSome, if◌then◌else◌}
use Rattle.sspi_types.specs.declared.client_request_flags.ClientRequestFlags.{ClientRequestFlags}
use Rattle.sspi_types.specs.declared.credential_use.CredentialUse.TheVariants.{Outbound}
use Rattle.sspi_types.specs.declared.data_representation.DataRepresentation.TheVariants as representations
use Rattle.sspi_types.specs.declared.error.Error.{Error}
use Rattle.sspi_types.specs.declared.security_status.SecurityStatus.{SecurityStatus}
use Rattle.sspi_names.specs.declared.credentials.CredentialsBuffers.{CredentialsBuffers}
use Rattle.sspi_names.specs.declared.network.NetworkRequest.{NetworkRequest}
use Rattle.sspi_tsreq.specs.declared.request.TsRequest.{TsRequest}
use Rattle.sspi_mech.specs.declared.step.Answer.{Answer}
use Rattle.sspi_mech.specs.declared.step.Answer.TheVariants.{Done, Ask, Refused}
use Rattle.sspi_mech.specs.declared.step.Reply.{Reply}
use Rattle.sspi_mech.specs.Calls.{StepArgs, Counts}
use Rattle.sspi_mech.specs.Meaning.{Meaning}
use Rattle.sspi_credssp.specs.declared.client_state.ClientState.{ClientState}
use Rattle.sspi_credssp.specs.declared.client_state.ClientState.TheVariants.{ReplyNeeded}
use Rattle.sspi_credssp.specs.declared.client_state.ClientState.TheVariants.{FinalMessage}
use Rattle.sspi_credssp.specs.declared.client_state.Progress.{Progress}
use Rattle.sspi_credssp.specs.declared.client_state.Progress.TheVariants.{Suspended, Completed}
use Rattle.sspi_credssp.specs.declared.public_key.EndpointType.TheVariants.{Client}
use Rattle.sspi_credssp.specs.declared.state.CredSspState.{CredSspState}
use Rattle.sspi_credssp.specs.declared.state.CredSspState.TheVariants.{NegoToken, AuthInfo, Final}
use Rattle.sspi_credssp.specs.declared.turn.End.TheVariants.{Client}
use Rattle.sspi_credssp.specs.declared.turn.Outcome.{Outcome}
use Rattle.sspi_credssp.specs.declared.turn.Outcome.TheVariants as outcome
use Rattle.sspi_credssp.specs.declared.turn.Turn.{Turn}
use Rattle.sspi_credssp.specs.Acts.{silent, no_acts, sealings_in, unsealings_in, CountsEachAct}
use Rattle.sspi_credssp.specs.Acts.{SameBut, is_waiting_in}
use Rattle.sspi_credssp.specs.Context.{Begun, IfContext, ContextSetting, ForClient}
use Rattle.sspi_credssp.specs.Ends.{ClientView}
use Rattle.sspi_credssp.specs.Noted.{is_altered_in, is_old_in, noted_in}
use Rattle.sspi_credssp.specs.Requests.{token_of, is_code}
use Rattle.sspi_credssp.specs.Turn.{HoldsClient, client_shown, ShowsClient, UnlessRefused}
use Rattle.sspi_credssp.specs.Turn.{IfRefused, FitsNoted, ClientFrame, OnceNegotiated}
use Rattle.sspi_credssp.specs.Turn.{IsUnspent}

-- ---- The step of the context in a client's turn, from the context before it to the one after.

-- MUTUAL_AUTH, USE_SESSION_KEY, INTEGRITY and CONFIDENTIALITY
abbrev pub client_requirements : ClientRequestFlags
client_requirements = record { 0 = 0x10032 }

abbrev pub client_args : Option CredentialsBuffers → List ℕ → Option (List ℕ) → StepArgs
client_args handle target token = record {
  handle = handle;
  requirements = client_requirements;
  representation = representations.Native;
  target = Some target;
  input = token_of token;
}

-- a request to a KDC, and its outcome
pub record Asked : Type 0 where
  pub question : NetworkRequest
  pub reply : Reply

-- a fact of each call that waits for a KDC
abbrev pub OnSuspended : Result Progress Error → Type 0 → Type 0
OnSuspended (Ok (Completed state)) P = Unit {0}
OnSuspended (Ok (Suspended question)) P = P
OnSuspended (Err error) P = Unit {0}

-- the answer of a step that reached a status, or of a refused one
abbrev pub refused_answer : Option SecurityStatus → List ℕ → Error → Answer
refused_answer None output error = Refused error
refused_answer (Some status) output error = Done (record { status = status; output = output })

module _ {C : Type 0} (c : Meaning ContextSetting C) where
  -- A step of the turn that began at `start`: how many refused resumes were tried again, the
  -- questions that it asked, newest first, its answer, and the context after it. Apart from that,
  -- only sealing and opening change the context.
  pub data Walked (start : ClientView C) (handle : Option CredentialsBuffers)
      (token : Option (List ℕ)) :
      ℕ → List Asked → Answer → C → Type 0 where
    stepped : (m0 m : C) (answer : Answer) →
        Begun c start.context start.handle (ForClient start.settings.mode) Outbound
        (Some start.settings.credentials) handle m0 →
        c.steps m0 (client_args handle start.settings.target token) answer m →
        Walked start handle token 0 [] answer m
    resumed : (m m2 : C) (tries : ℕ) (log : List Asked) (q : NetworkRequest) (reply : Reply)
        (answer : Answer) →
        Walked start handle token tries log (Ask q) m → c.resumes m reply answer m2 →
        Walked start handle token tries (record { question = q; reply = reply } ∷ log) answer m2
    -- a refused resume that still waits
    still_asked : (m m2 : C) (tries : ℕ) (log : List Asked) (q : NetworkRequest) (reply : Reply)
        (error : Error) →
        Walked start handle token tries log (Ask q) m → c.resumes m reply (Refused error) m2 →
        c.waits m2 ≡ true →
        Walked start handle token (tries + 1) (record { question = q; reply = reply } ∷ log) (Ask q)
        m2
    recounted : (m m2 : C) (n : Counts) (tries : ℕ) (log : List Asked) (answer : Answer) →
        Walked start handle token tries log answer m →
        m2 ≡ c.counted m n → silent n ≡ silent (c.counts m) →
        Walked start handle token tries log answer m2

  abbrev pub StepsTo : ClientView C → TsRequest → ℕ → List Asked → Answer → ClientView C → Type 0
  StepsTo start d tries log answer now = IfContext now.context
      (Walked start now.handle d.nego_tokens tries log answer)

  abbrev pub DoneStep : Option SecurityStatus → ClientView C → TsRequest → ℕ → List Asked →
      ClientView C → Type 0
  DoneStep None start d tries log now = Unit {0}
  DoneStep (Some status) start d tries log now =
      StepsTo start d tries log (Done (record { status = status; output = now.output })) now

  abbrev pub OnStep : Bool → Type 0 → Type 0
  OnStep true P = P
  OnStep false P = Unit {0}

  -- The status and the output are the step's own answer, even if the turn was then refused. A
  -- refused step was refused with exactly this error. A turn is suspended exactly if the step
  -- asked, with its question.
  abbrev pub HasStepped : ClientView C → TsRequest → ℕ → List Asked → Result Progress Error →
      ClientView C → Type 0
  HasStepped start d tries log (Ok (Completed state)) now =
      DoneStep now.acts.status start d tries log now
  HasStepped start d tries log (Ok (Suspended question)) now =
      StepsTo start d tries log (Ask question) now
  HasStepped start d tries log (Err error) now =
      OnStep now.acts.negotiated (StepsTo start d tries log
      (refused_answer now.acts.status now.output error) now)

-- ---- the turn

abbrev pub state_after : CredSspState → Outcome → Bool → CredSspState
state_after state (outcome.Reply reply) proved = if proved then AuthInfo else state
state_after state (outcome.Final reply) proved = Final
state_after state outcome.Finished proved = Final
state_after state (outcome.Refused kind reply) proved = state

module _ {C : Type 0} (c : Meaning ContextSetting C) where
  -- what its bytes can show, and what they must be made from
  pub record IsClientTurn (f : ClientFrame C) (t : Turn) : Type 0 where
    pub shown : ShowsClient (client_shown f) t
    pub held : HoldsClient c f t

  -- the frame of one call: a turn seals at most one text and opens at most one blob, each the last
  -- of the context
  abbrev pub client_frame : ClientView C → ClientView C → ClientFrame C
  client_frame old new = record {
    settings = new.settings;
    state = old.state;
    made = sealings_in c new.context - 1;
    opened = unsealings_in c new.context - 1;
    looks = is_some old.context;
    noted = new.noted;
    context = new.context;
  }

  abbrev pub client_turn : TsRequest → Outcome → ClientView C → Turn
  client_turn d out new = record {
    end = Client;
    delivered = d;
    acts = new.acts;
    output = new.output;
    outcome = out;
  }

  -- a context and the credentials that it acquired are kept
  abbrev pub KeepsHandle : ClientView C → ClientView C → Type 0
  KeepsHandle old new = IsSome old.context → (new.handle ≡ old.handle) × IsSome new.context

  -- the version that is pinned if a call checks the delivered one
  abbrev pub noted_next : ClientView C → TsRequest → Option ℕ
  noted_next old d = noted_in old.context old.settings.least old.noted d.version

  -- the version that is pinned after a call; a call that is refused before it checks the version
  -- pins none
  abbrev pub noted_after : ClientView C → TsRequest → Option ℕ
  noted_after old d = if is_waiting_in c old.context || is_code d.error_code then old.noted
      else noted_next old d

  -- how a turn changes the client
  pub record ClientMoves (old : ClientView C) (d : TsRequest) (out : Outcome)
      (new : ClientView C) : Type 0 where
    pub same : new.settings ≡ old.settings
    pub handle : KeepsHandle old new
    pub state : new.state ≡ state_after old.state out new.acts.proved
    pub noted : new.noted ≡ noted_after old d
    pub noted_going : UnlessRefused out (new.noted ≡ noted_next old d)
    pub noted_proved : new.acts.proved ≡ true → new.noted ≡ noted_next old d
    pub noted_checked : new.acts.checked ≡ true → new.noted ≡ noted_next old d
    pub begun : UnlessRefused out (IsSome new.context)
    pub counts : CountsEachAct c old.state old.context new.acts new.context
    -- the context takes no step past the authentication
    pub bare : OnceNegotiated old.state (SameBut c old.context new.context)
    -- a call that took no step changes at most the context's counts, and one whose step gave no
    -- answer has no token
    pub unstepped : new.acts.negotiated ≡ false → SameBut c old.context new.context
    pub unanswered : new.acts.status ≡ None → new.output ≡ []
    -- once its proof or its credentials are sealed, a call is not refused
    pub ended : IfRefused out ((new.acts.sealed ≡ false) × (new.acts.proved ≡ false))

  pub record ClientTurn (old : ClientView C) (d : TsRequest) (out : Outcome)
      (new : ClientView C) : Type 0 where
    pub turn : IsClientTurn (client_frame old new) (client_turn d out new)
    pub moves : ClientMoves old d out new

  -- A turn on d that began at `start` has passed the version check. What follows is about the
  -- context as it is now.
  pub record IsReady (start : ClientView C) (d : TsRequest) (now : ClientView C) : Type 0 where
    pub idle : is_waiting_in c start.context ≡ false
    pub code : is_code d.error_code ≡ false
    pub same : now.settings ≡ start.settings
    pub handle : KeepsHandle start now
    pub state : now.state ≡ start.state
    pub noted : now.noted ≡ noted_next start d
    pub fits : FitsNoted (is_some start.context) now.noted d.version
    pub young : is_old_in start.context start.settings.least start.noted d.version ≡ false
    pub passed : is_altered_in start.context start.noted d.version ≡ false
    pub begun : IsSome now.context
    pub unspent : IsUnspent c start.state start.context now.context

  -- a turn on d that began at `start` is suspended
  pub record IsUnderway (start : ClientView C) (d : TsRequest) (now : ClientView C) : Type 0 where
    pub ready : IsReady start d now
    pub state : now.state ≡ NegoToken
    pub waiting : is_waiting_in c now.context ≡ true
    pub kept : now.kept ≡ Some (record d { version = now.settings.version })

  abbrev pub CompletedTurn : ClientView C → TsRequest → ClientState → ClientView C → Type 0
  CompletedTurn old d (ReplyNeeded reply) new = ClientTurn old d (outcome.Reply reply) new
  CompletedTurn old d (FinalMessage reply) new = ClientTurn old d (outcome.Final reply) new

  abbrev pub ClientGoes : ClientView C → TsRequest → Result Progress Error → ClientView C → Type 0
  ClientGoes old d (Ok (Completed state)) new = CompletedTurn old d state new
  ClientGoes old d (Ok (Suspended question)) new =
      IsUnderway old d new × (new.acts ≡ record no_acts { negotiated = true }) × (new.output ≡ [])
  ClientGoes old d (Err error) new = ClientTurn old d (outcome.Refused error.error_type None) new
