-- The contexts of each end's turns as a chain, and what the client's KDC was asked in them.
use Rattle.std.specs.Prelude.{◌≡◌, ℕ, ◌≤◌, List, [], ◌∷◌, Option, None, Some, IsSome, Result, Ok}
use Rattle.std.specs.Prelude.{Err, Bool, true, false}
use Rattle.sspi_types.specs.declared.credential_use.CredentialUse.TheVariants.{Inbound}
use Rattle.sspi_types.specs.declared.error.Error.{Error}
use Rattle.sspi_types.specs.declared.security_status.SecurityStatus.{SecurityStatus}
use Rattle.sspi_types.specs.Counting.{counted_on}
use Rattle.sspi_names.specs.declared.credentials.CredentialsBuffers.{CredentialsBuffers}
use Rattle.sspi_names.specs.declared.network.NetworkRequest.{NetworkRequest}
use Rattle.sspi_mech.specs.declared.step.Answer.{Answer}
use Rattle.sspi_mech.specs.declared.step.Answer.TheVariants.{Done, Ask, Refused}
use Rattle.sspi_mech.specs.declared.step.Reply.{Reply}
use Rattle.sspi_mech.specs.declared.step.Reply.TheVariants.{Answered, Failed}
use Rattle.sspi_mech.specs.declared.step.Step.{Step}
use Rattle.sspi_mech.specs.Meaning.{Meaning}
use Rattle.sspi_tsreq.specs.declared.request.TsRequest.{TsRequest}
use Rattle.sspi_credssp.specs.declared.turn.Outcome.{Outcome}
use Rattle.sspi_credssp.specs.declared.turn.Outcome.TheVariants as outcome
use Rattle.sspi_credssp.specs.declared.turn.Turn.{Turn}
use Rattle.sspi_credssp.specs.Acts.{sealings_in, unsealings_in, SameBut}
use Rattle.sspi_credssp.specs.ClientTurn.{Asked, Walked}
use Rattle.sspi_credssp.specs.Context.{Begun, IfContext, ContextSetting}
use Rattle.sspi_credssp.specs.Ends.{ClientView, ServerView}
use Rattle.sspi_credssp.specs.Proxy.{ProxyMeaning}
use Rattle.sspi_credssp.specs.ServerTurn.{Knowing, Unknown, Accepted, RefusedAt, known_at}
use Rattle.sspi_credssp.specs.ServerTurn.{server_setting, UnlessMade}
use Rattle.sspi_delegate.specs.declared.answer.DelegateError.{DelegateError}
use Rattle.sspi_delegate.specs.declared.answer.DelegateError.TheVariants as errors
use Rattle.sspi_delegate.specs.declared.answer.Delegation.{Delegation}
use Rattle.sspi_delegate.specs.Turns.{made_in, opened_in, AllGoOn}

-- ---- What a KDC was asked in an exchange, and what it replied.

-- how calls change a KDC: those with these questions and replies, newest first; and one that ran
-- out of memory for its reply
pub record KdcCalls (D : Type 0) : Type 1 where
  pub replies : D → List Asked → D → Type 0
  pub lost : D → D → Type 0

-- if the replies are exposed, this is the one for this question in this call, and the count of
-- faults rises only with a failure
abbrev pub RepliesAsTold : Option (ℕ → NetworkRequest → Reply) → ℕ → NetworkRequest → Reply → ℕ →
    ℕ → Type 0
RepliesAsTold None call question reply before now = Unit {0}
RepliesAsTold (Some told) call question (Answered bytes) before now =
    (told call question ≡ Answered bytes) × (now ≡ before)
RepliesAsTold (Some told) call question Failed before now = told call question ≡ Failed

-- a failure is counted, or finds the count at its maximum; the count never falls
abbrev pub CountsReply : Reply → ℕ → ℕ → Type 0
CountsReply (Answered bytes) before now = before ≤ now
CountsReply Failed before now = (before ≤ now) × (counted_on before ≤ now)

-- if the replies are exposed, no fault is counted
abbrev pub IsCalmWhereTold : Option (ℕ → NetworkRequest → Reply) → ℕ → ℕ → Type 0
IsCalmWhereTold None before now = before ≤ now
IsCalmWhereTold (Some told) before now = now ≡ before

module _ {D : Type 0} (told : D → Option (ℕ → NetworkRequest → Reply)) (calls faults : D → ℕ) where
  -- one call, and its reply
  pub record HasReplied (before : D) (question : NetworkRequest) (reply : Reply) (now : D) : Type 0
    where
      pub told_same : told now ≡ told before
      pub called : calls now ≡ counted_on (calls before)
      pub as_told : RepliesAsTold (told before) (calls before) question reply (faults before)
          (faults now)
      pub counted : CountsReply reply (faults before) (faults now)

  -- one call that ran out of memory for its reply
  pub record HasNoReply (before now : D) : Type 0 where
    pub told_same : told now ≡ told before
    pub called : calls now ≡ counted_on (calls before)
    pub calm : IsCalmWhereTold (told before) (faults before) (faults now)

  -- these calls, newest first, lead from a KDC that was `first` to one that is `now`; nothing else
  -- changes it
  abbrev pub HasAnswered : D → List Asked → D → Type 0
  HasAnswered first [] now = now ≡ first
  HasAnswered first (asked ∷ log) now = (before : D) × HasAnswered first log before ×
      HasReplied before asked.question asked.reply now

  abbrev pub kdc_calls : KdcCalls D
  kdc_calls = record { replies = HasAnswered; lost = HasNoReply }

-- ---- The contexts of an end's turns, as a chain. Each negotiating turn is one step of the context
-- that the turns before left, on its token; only sealing and opening change a context besides. A
-- chain names the end as it was made, its turns, its KDC's and proxy's replies, and no other state.

-- what a client has between two of its turns: its context, the credentials that it acquired, and
-- its KDC
pub record ClientStage (C D : Type 0) : Type 0 where
  pub context : Option C
  pub handle : Option CredentialsBuffers
  pub kdc : D

abbrev pub client_stage : {C D : Type 0} → ClientView C → D → ClientStage C D
client_stage client kdc = record { context = client.context; handle = client.handle; kdc = kdc }

-- what a server has between two of its turns
pub record ServerStage (C : Type 0) : Type 0 where
  pub context : Option C
  pub handle : Option CredentialsBuffers

abbrev pub server_stage : {C P : Type 0} → ServerView C P → ServerStage C
server_stage server = record { context = server.context; handle = server.handle }

-- `first` is the client as it was made
module _ {C D : Type 0} (c : Meaning ContextSetting C) (k : KdcCalls D) (first : ClientView C) where
  abbrev pub client_at : ClientStage C D → ClientView C
  client_at stage = record first { context = stage.context; handle = stage.handle }

  -- One step of the context, which is made first if there is none, took this token and came to this
  -- answer; the KDC replied to its questions.
  pub record ClientStepped (stage : ClientStage C D) (token : Option (List ℕ)) (answer : Answer)
      (next : ClientStage C D) : Type 0 where
    pub asked : List Asked
    pub replied : k.replies stage.kdc asked next.kdc
    pub walked : IfContext next.context (Walked c (client_at stage) next.handle token 0 asked
        answer)

  -- no step: the context may have sealed and opened, and no KDC was asked
  pub record ClientRested (stage next : ClientStage C D) : Type 0 where
    pub context : SameBut c stage.context next.context
    pub handle : IsSome stage.context → next.handle ≡ stage.handle
    pub unasked : k.replies stage.kdc [] next.kdc

  -- A status and the turn's output are the answer of its step, even if the turn was refused after
  -- it; without a status the step was refused.
  abbrev pub ClientMovedBy : Bool → Option SecurityStatus → Outcome → Option (List ℕ) → List ℕ →
      ClientStage C D → ClientStage C D → Type 0
  ClientMovedBy false status came token output stage next = ClientRested stage next
  ClientMovedBy true (Some status) came token output stage next =
      ClientStepped stage token (Done (record { status = status; output = output })) next
  ClientMovedBy true None (outcome.Refused kind reply) token output stage next =
      (error : Error) × (error.error_type ≡ kind) × ClientStepped stage token (Refused error) next
  ClientMovedBy true None came token output stage next = ⊥

  -- one turn after those before it; the context has sealed and opened as often as the turns say
  pub record ClientLink (past : List Turn) (t : Turn) (stage next : ClientStage C D) : Type 0 where
    pub moved : ClientMovedBy t.acts.negotiated t.acts.status t.outcome t.delivered.nego_tokens
        t.output stage next
    pub sealings : sealings_in c next.context ≡ made_in (t ∷ past)
    pub unsealings : unsealings_in c next.context ≡ opened_in (t ∷ past)

  -- the stage that these turns lead to, the newest first, from a client as it was made and a KDC
  -- that was `kdc`
  abbrev pub ClientChain : D → List Turn → ClientStage C D → Type 0
  ClientChain kdc [] stage = stage ≡ client_stage first kdc
  ClientChain kdc (t ∷ past) next = (stage : ClientStage C D) × ClientChain kdc past stage ×
      ClientLink past t stage next

  -- if memory ran out: the stage of all turns; or, in one further turn without a record, that of a
  -- step that waits for its KDC, on the token of the due request
  pub data ClientChainLeft (due : TsRequest → Type 0) (kdc : D) (turns : List Turn)
      (now : ClientStage C D) : Type 0 where
    at_rest : ClientChain kdc turns now → ClientChainLeft due kdc turns now
    waiting : (stage : ClientStage C D) (d : TsRequest) (question : NetworkRequest) (asked : D) →
        due d → AllGoOn turns →
        ClientChain kdc turns stage → ClientStepped stage d.nego_tokens (Ask question)
        (record now { kdc = asked }) →
        k.lost asked now.kdc → ClientChainLeft due kdc turns now

  -- the stage of an exchange's client, by the answer
  abbrev pub ClientChained : (TsRequest → Type 0) → D → Result Delegation DelegateError →
      List Turn → ClientStage C D → Type 0
  ClientChained due kdc (Ok delegation) turns now = ClientChain kdc turns now
  ClientChained due kdc (Err errors.InsufficientMemory) turns now =
      ClientChainLeft due kdc turns now
  ClientChained due kdc (Err error) turns now = ClientChain kdc turns now

-- `first` is the server as it was made; its proxy may expose its entries, and what a look-up of a
-- name finds
module _ {C P : Type 0} (c : Meaning ContextSetting C) (p : ProxyMeaning P) (first : ServerView C P)
  where
    abbrev pub server_at : ServerStage C → ServerView C P
    server_at stage = record first { context = stage.context; handle = stage.handle }

    -- One step of the context, which is made first if there is none, took this token and came to
    -- this answer; then the peer is known to this degree.
    abbrev pub ServerStepped : Knowing → ServerStage C → Option (List ℕ) → Result Step Error →
        ServerStage C → Type 0
    ServerStepped known stage token answer next =
        IfContext next.context (Accepted c p (server_at stage) next.handle token known answer)

    -- no step: the context may have sealed and opened, or was only made, in a turn that was refused
    -- before its step
    pub record ServerRested (stage next : ServerStage C) : Type 0 where
      pub context : UnlessMade c stage.context next.context
          (Begun c stage.context stage.handle (server_setting p first) Inbound None next.handle)
      pub handle : IsSome stage.context → next.handle ≡ stage.handle

    -- As for a client. At the end of the authentication, a turn that is not refused knows its peer;
    -- a refused one may have got less far.
    abbrev pub ServerMovedBy : Bool → Option SecurityStatus → Outcome → Option (List ℕ) → List ℕ →
        ServerStage C → ServerStage C → Type 0
    ServerMovedBy false status came token output stage next = ServerRested stage next
    ServerMovedBy true (Some status) (outcome.Refused kind reply) token output stage next =
        IfContext next.context
        (RefusedAt c p (Some status) (server_at stage) next.handle token
        (Ok (record { status = status; output = output })))
    ServerMovedBy true (Some status) came token output stage next =
        ServerStepped (known_at c p status) stage token
        (Ok (record { status = status; output = output })) next
    ServerMovedBy true None (outcome.Refused kind reply) token output stage next =
        (error : Error) × (error.error_type ≡ kind) ×
        ServerStepped Unknown stage token (Err error) next
    ServerMovedBy true None came token output stage next = ⊥

    -- one turn after those before it; the context has sealed and opened as often as the turns say
    pub record ServerLink (past : List Turn) (t : Turn) (stage next : ServerStage C) : Type 0 where
      pub moved : ServerMovedBy t.acts.negotiated t.acts.status t.outcome t.delivered.nego_tokens
          t.output stage next
      pub sealings : sealings_in c next.context ≡ made_in (t ∷ past)
      pub unsealings : unsealings_in c next.context ≡ opened_in (t ∷ past)

    -- the stage that these turns lead to, the newest first, from a server as it was made
    abbrev pub ServerChain : List Turn → ServerStage C → Type 0
    ServerChain [] stage = stage ≡ server_stage first
    ServerChain (t ∷ past) next = (stage : ServerStage C) × ServerChain past stage ×
        ServerLink past t stage next
