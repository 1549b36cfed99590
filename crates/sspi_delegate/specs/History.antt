-- How an end came to be what it is: the calls by which it made its turns, and the one that it
-- refused at last.
use Rattle.std.specs.Prelude.{◌≡◌, ◌≤◌, ℕ, List, [], ◌∷◌, Option, Some, None, Result, Ok, Err}
use Rattle.std.specs.Prelude.{false}
use Rattle.sspi_types.specs.declared.error.Error.{Error}
use Rattle.sspi_names.specs.declared.identity.AuthIdentity.{AuthIdentity}
use Rattle.sspi_names.specs.declared.network.NetworkRequest.{NetworkRequest}
use Rattle.sspi_tsreq.specs.declared.request.TsRequest.{TsRequest}
use Rattle.sspi_mech.specs.declared.step.Reply.{Reply}
use Rattle.sspi_mech.specs.Meaning.{Meaning}
use Rattle.sspi_credssp.specs.declared.client_state.ClientState.TheVariants.{ReplyNeeded}
use Rattle.sspi_credssp.specs.declared.client_state.ClientState.TheVariants.{FinalMessage}
use Rattle.sspi_credssp.specs.declared.client_state.Progress.{Progress}
use Rattle.sspi_credssp.specs.declared.client_state.Progress.TheVariants.{Suspended, Completed}
use Rattle.sspi_credssp.specs.declared.server_state.ServerState.TheVariants as ends
use Rattle.sspi_credssp.specs.declared.turn.Outcome.{Outcome}
use Rattle.sspi_credssp.specs.declared.turn.Outcome.TheVariants as outcome
use Rattle.sspi_credssp.specs.declared.turn.Turn.{Turn}
use Rattle.sspi_credssp.specs.ClientCall.{ClientIsRefused, ClientKeeps}
use Rattle.sspi_credssp.specs.ClientTurn.{Asked, HasStepped, client_turn, ClientGoes}
use Rattle.sspi_credssp.specs.Context.{ContextSetting}
use Rattle.sspi_credssp.specs.Ends.{ClientView, ServerView}
use Rattle.sspi_credssp.specs.Noted.{ClientHeeds}
use Rattle.sspi_credssp.specs.Proxy.{ProxyMeaning}
use Rattle.sspi_credssp.specs.ServerCall.{ServerCall}
use Rattle.sspi_credssp.specs.ServerTurn.{server_turn}
use Rattle.sspi_delegate.specs.declared.answer.DelegateError.{DelegateError}
use Rattle.sspi_delegate.specs.declared.answer.DelegateError.TheVariants as errors
use Rattle.sspi_delegate.specs.declared.answer.Delegation.{Delegation}
use Rattle.sspi_delegate.specs.Chain.{KdcCalls, client_stage, ClientChain, server_stage}
use Rattle.sspi_delegate.specs.Chain.{ServerChain}
use Rattle.sspi_delegate.specs.Turns.{ClientFollows, ServerFollows, server_end, GivesNewest}
use Rattle.sspi_delegate.specs.Turns.{AllGoOn}

-- ---- Why an end refused its last turn: what it looked at, in its order, and what its context answered.

-- what calls leave of a proxy: what it exposes stays the same; its count of faults does not fall,
-- and does not rise if it says that no call fails
pub record ProxyStays {P : Type 0} (p : ProxyMeaning P) (old new : P) : Type 0 where
  pub told_same : p.told new ≡ p.told old
  pub counted : p.faults old ≤ p.faults new
  pub calm : (p.told old).failing ≡ Some [] → p.faults new ≡ p.faults old

-- what calls leave of a KDC
pub record KdcStays {D : Type 0} (told : D → Option (ℕ → NetworkRequest → Reply)) (faults : D →
    ℕ) (old new : D) : Type 0 where
  pub told_same : told new ≡ told old
  pub counted : faults old ≤ faults new

-- ---- The calls by which an end made its turns. Nothing changes it, or the client's KDC, between.

module _ {C D : Type 0} (c : Meaning ContextSetting C) (k : KdcCalls D) where
  -- The client took d and came to this, by one call and a resume with each reply of its KDC. This
  -- is all that `ClientCall` says, except that the KDC may have been asked, newest question first.
  -- No refused resume was tried again.
  pub record ClientTakes (old : ClientView C) (kdc : D) (d : TsRequest)
      (result : Result Progress Error) (new : ClientView C)
      (kdc2 : D) : Type 0 where
    pub turn : ClientGoes c old d result new
    pub asked : List Asked
    pub replied : k.replies kdc asked kdc2
    pub step : HasStepped c old d 0 asked result new
    pub unasked : new.acts.negotiated ≡ false → asked ≡ []
    pub heeded : ClientHeeds c old d result new
    pub cause : ClientIsRefused c old d result new
    pub kept : ClientKeeps c old d result new

  -- it made a turn with this outcome
  abbrev pub ClientMakes : ClientView C → D → TsRequest → Outcome → ClientView C → D → Type 0
  ClientMakes old kdc d (outcome.Reply reply) new kdc2 =
      ClientTakes old kdc d (Ok (Completed (ReplyNeeded reply))) new kdc2
  ClientMakes old kdc d (outcome.Final reply) new kdc2 =
      ClientTakes old kdc d (Ok (Completed (FinalMessage reply))) new kdc2
  ClientMakes old kdc d (outcome.Refused kind None) new kdc2 =
      (error : Error) × (error.error_type ≡ kind) × ClientTakes old kdc d (Err error) new kdc2
  ClientMakes old kdc d other new kdc2 = ⊥

  -- a turn of a client that was `old`; its output was then taken for the record
  pub record ClientMade (old : ClientView C) (kdc : D) (t : Turn) (now : ClientView C)
      (kdc2 : D) : Type 0 where
    pub mid : ClientView C
    pub turn : t ≡ client_turn c t.delivered t.outcome mid
    pub makes : ClientMakes old kdc t.delivered t.outcome mid kdc2
    pub rest : now ≡ record mid { output = [] }

  -- these turns, newest first, lead from a client that was `first` to one that is `now`, and its
  -- KDC from `kdc` to `kdc2`
  abbrev pub ClientHistory : ClientView C → D → List Turn → ClientView C → D → Type 0
  ClientHistory first kdc [] now kdc2 = (now ≡ first) × (kdc2 ≡ kdc)
  ClientHistory first kdc (t ∷ past) now kdc2 = (old : ClientView C) × (kdc1 : D) ×
      ClientHistory first kdc past old kdc1 ×
      ClientMade old kdc1 t now kdc2

  -- the turn on d is suspended at a question for which the KDC ran out of memory
  pub record IsWaiting (old : ClientView C) (kdc : D) (d : TsRequest) (now : ClientView C)
      (kdc2 : D) : Type 0 where
    pub question : NetworkRequest
    pub asked_by : D
    pub takes : ClientTakes old kdc d (Ok (Suspended question)) now asked_by
    pub lost : k.lost asked_by kdc2

  -- the newest of these turns was refused with this error; the turns before it led the client to
  -- `old`
  pub record ClientStopped (first : ClientView C) (kdc : D) (error : Error) (turns : List Turn)
      (now : ClientView C)
      (kdc2 : D) : Type 0 where
    pub old : ClientView C
    pub kdc1 : D
    pub mid : ClientView C
    pub d : TsRequest
    pub past : List Turn
    pub newest : turns ≡ client_turn c d (outcome.Refused error.error_type None) mid ∷ past
    pub before : ClientHistory first kdc past old kdc1
    pub takes : ClientTakes old kdc1 d (Err error) mid kdc2
    pub rest : now ≡ record mid { output = [] }

  -- the same for a client that was fresh: before that turn it was as its turns left it, with the
  -- context that their chain leads to
  pub record ClientRefused (first : ClientView C) (kdc : D) (error : Error) (now : ClientView C)
      (kdc2 : D)
      (turns : List Turn) : Type 0 where
    pub stopped : ClientStopped first kdc error turns now kdc2
    pub follows : ClientFollows c first stopped.old stopped.past
    pub chain : ClientChain c k first kdc stopped.past (client_stage stopped.old stopped.kdc1)

  -- if memory ran out, the client may be waiting for its KDC, in a turn on the request that was
  -- due, which is not recorded
  pub data ClientLeft (due : TsRequest → Type 0) (first : ClientView C) (kdc : D)
      (turns : List Turn) (now : ClientView C)
      (kdc2 : D) : Type 0 where
    between : ClientHistory first kdc turns now kdc2 → ClientLeft due first kdc turns now kdc2
    waiting : (old : ClientView C) (kdc1 : D) (d : TsRequest) → due d → AllGoOn turns →
        ClientHistory first kdc turns old kdc1 →
        IsWaiting old kdc1 d now kdc2 → ClientLeft due first kdc turns now kdc2

  -- the history of the client of an exchange that ended in this error
  abbrev pub ClientStops : (TsRequest → Type 0) → ClientView C → D → DelegateError → List Turn →
      ClientView C → D → Type 0
  ClientStops due first kdc (errors.Client error) turns now kdc2 =
      ClientStopped first kdc error turns now kdc2
  ClientStops due first kdc errors.InsufficientMemory turns now kdc2 =
      ClientLeft due first kdc turns now kdc2
  ClientStops due first kdc other turns now kdc2 = ClientHistory first kdc turns now kdc2

  -- the history of the client of an exchange, by its answer
  abbrev pub ClientPast : (TsRequest → Type 0) → ClientView C → D →
      Result Delegation DelegateError → List Turn → ClientView C → D →
      Type 0
  ClientPast due first kdc (Ok delegation) turns now kdc2 = ClientHistory first kdc turns now kdc2
  ClientPast due first kdc (Err error) turns now kdc2 =
      ClientStops due first kdc error turns now kdc2

module _ {C P : Type 0} (c : Meaning ContextSetting C) (p : ProxyMeaning P) where
  -- the server took d and came to this outcome, by one call of `process`
  abbrev pub ServerMakes : ServerView C P → TsRequest → Outcome → ServerView C P → Type 0
  ServerMakes old d (outcome.Reply reply) new =
      ServerCall c p old d (Ok (ends.ReplyNeeded reply)) new
  ServerMakes old d (outcome.Final reply) new = ⊥
  ServerMakes old d outcome.Finished new = (identity : AuthIdentity) ×
      ServerCall c p old d (Ok (ends.Finished identity)) new
  ServerMakes old d (outcome.Refused kind reply) new =
      (error : Error) × (error.error_type ≡ kind) ×
      ServerCall c p old d (Err (record { ts_request = reply; error = error })) new

  -- a turn of a server that was `old`; its output was then taken for the record
  pub record ServerMade (old : ServerView C P) (t : Turn) (now : ServerView C P) : Type 0 where
    pub mid : ServerView C P
    pub turn : t ≡ server_turn c t.delivered t.outcome mid
    pub makes : ServerMakes old t.delivered t.outcome mid
    pub rest : now ≡ record mid { output = [] }

  -- these turns, newest first, lead from a server that was `first` to one that is `now`
  abbrev pub ServerHistory : ServerView C P → List Turn → ServerView C P → Type 0
  ServerHistory first [] now = now ≡ first
  ServerHistory first (t ∷ past) now = (old : ServerView C P) × ServerHistory first past old ×
      ServerMade old t now

  -- the newest of these turns gave this identity
  abbrev pub ServerGave : ServerView C P → AuthIdentity → List Turn → ServerView C P → Type 0
  ServerGave first identity turns now = ServerHistory first turns now ×
      GivesNewest c (server_end now) turns identity

  -- the newest of these turns was refused with this error; the turns before it led the server to
  -- `old`
  pub record ServerStopped (first : ServerView C P) (error : Error) (turns : List Turn)
      (now : ServerView C P) : Type 0 where
    pub old : ServerView C P
    pub mid : ServerView C P
    pub d : TsRequest
    pub reply : Option TsRequest
    pub past : List Turn
    pub newest : turns ≡ server_turn c d (outcome.Refused error.error_type reply) mid ∷ past
    pub before : ServerHistory first past old
    pub call : ServerCall c p old d (Err (record { ts_request = reply; error = error })) mid
    pub rest : now ≡ record mid { output = [] }

  -- the same for a server that was fresh: before that turn it was as its turns left it, with the
  -- context that their chain leads to
  pub record ServerRefused (first : ServerView C P) (error : Error) (now : ServerView C P)
      (turns : List Turn) : Type 0 where
    pub stopped : ServerStopped first error turns now
    pub follows : ServerFollows c first stopped.old stopped.past
    pub chain : ServerChain c p first stopped.past (server_stage stopped.old)
    pub proxy : ProxyStays p first.proxy stopped.old.proxy

  -- the history of the server of an exchange that ended in this error
  abbrev pub ServerStops : ServerView C P → DelegateError → List Turn → ServerView C P → Type 0
  ServerStops first (errors.Server error) turns now = ServerStopped first error turns now
  ServerStops first other turns now = ServerHistory first turns now

  -- the history of the server of an exchange, by its answer
  abbrev pub ServerPast : ServerView C P → Result Delegation DelegateError → List Turn →
      ServerView C P → Type 0
  ServerPast first (Ok delegation) turns now = ServerGave first delegation.credentials turns now
  ServerPast first (Err error) turns now = ServerStops first error turns now

  -- a refusal that an exchange answers is that of the last turn
  abbrev pub RefusedBy : {D : Type 0} → KdcCalls D → ClientView C → D → ClientView C → D →
      ServerView C P → ServerView C P →
      Result Delegation DelegateError → List Turn → List Turn → Type 0
  RefusedBy k client kdc client2 kdc2 server server2 (Err (errors.Client error)) clients servers =
      ClientRefused c k client kdc error client2 kdc2 clients
  RefusedBy k client kdc client2 kdc2 server server2 (Err (errors.Server error)) clients servers =
      ServerRefused server error server2 servers
  RefusedBy k client kdc client2 kdc2 server server2 result clients servers = Unit {0}
