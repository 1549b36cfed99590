-- The effects of a call that passes a message to an end.
use Rattle.std.specs.Prelude.{◌≡◌, ◌≢◌, ℕ, ◌==◌, ◌&&◌, List, [], ◌∷◌, length, Bool, true, false}
use Rattle.std.specs.Prelude.{Option, None, Some, Result, Ok, Err}
use Rattle.std.specs.Prelude.{if◌then◌else◌}
use Rattle.std.specs.Global.{Box}
use Rattle.std_alloc.specs.Box.{with_value}
use Rattle.sspi_types.specs.declared.error.Error.{Error}
use Rattle.sspi_ber.specs.declared.wire_kind.WireKind.{WireKind}
use Rattle.sspi_mech.specs.Meaning.{Meaning}
use Rattle.sspi_mech.specs.Ntlm.{ntlm_meaning}
use Rattle.sspi_mech.specs.NtlmStage.{NtlmState}
use Rattle.sspi_tsreq.specs.Answer.{IsAnswer}
use Rattle.sspi_tsreq.specs.Grammar.{first_request}
use Rattle.sspi_tsreq.specs.declared.request.TsRequest.{TsRequest}
use Rattle.sspi_credssp.specs.Context.{ContextSetting, either}
use Rattle.sspi_credssp.specs.Ends.{ClientView, ServerView}
use Rattle.sspi_credssp.specs.declared.context.SspiContext.{SspiContext}
use Rattle.sspi_outside.specs.Ends.{ClientCalled, ServerCalled}
use Rattle.sspi_outside.specs.Hosting.{handed}
use Rattle.sspi_outside.specs.Outside.{OutsideState, outside_meaning}
use Rattle.sspi_outside.specs.PeersMeaning.{peers_meaning}
use Rattle.sspi_outside.specs.declared.client_end.ClientEnd.{ClientEnd}
use Rattle.sspi_outside.specs.declared.last.Last.{Last}
use Rattle.sspi_outside.specs.declared.peers.Peers.{Peers}
use Rattle.sspi_outside.specs.declared.server_end.ServerEnd.{ServerEnd}
use Rattle.newaksu_c.specs.declared.object.Object.{Object}
use Rattle.newaksu_c.specs.declared.object.Object.TheVariants.{Client, Server, PlainClient}
use Rattle.newaksu_c.specs.declared.object.Object.TheVariants.{PlainServer, Course}
use Rattle.newaksu_c.specs.declared.object.Object.TheVariants.{Request, Reader, Init, Targ}
use Rattle.newaksu_c.specs.declared.object.Object.TheVariants.{Credentials, Identities}
use Rattle.newaksu_c.specs.Putting.{kind_status}
use Rattle.newaksu_c.specs.Status.{ok, insufficient_memory, invalid_handle, invalid_parameter}
use Rattle.newaksu_c.specs.Status.{wire_status}

-- the contexts: of the host's mechanism, and of plain NTLM
abbrev pub hosted : Meaning ContextSetting (SspiContext OutsideState OutsideState)
hosted = either 0 outside_meaning outside_meaning

abbrev pub plain : Meaning ContextSetting (SspiContext NtlmState NtlmState)
plain = either 0 ntlm_meaning ntlm_meaning

-- ---- what is delivered

-- the request that the message begins with, or its fault
abbrev pub IsRead : List ℕ → Result TsRequest ℕ → Type 0
IsRead bytes (Ok d) = IsAnswer bytes (Ok d)
IsRead bytes (Err status) = (kind : WireKind) × IsAnswer bytes (Err kind) ×
    (status ≡ wire_status kind)

-- a client's first call has no message
abbrev pub IsDelivered : List ℕ → Result TsRequest ℕ → Type 0
IsDelivered [] (Ok d) = d ≡ first_request
IsDelivered [] (Err status) = ⊥
IsDelivered (b ∷ bytes) read = IsRead (b ∷ bytes) read

-- the texts that the host opened, the proof and the credentials, by the number of the field
abbrev pub reported : ℕ → List ℕ → Option (Option (List ℕ) × Option (List ℕ))
reported field text =
    if field == 0 then (if length text == 0 then Some (None, None) else None)
    else if field == 2 then Some (None, Some text)
    else if field == 3 then Some (Some text, None)
    else None

-- ---- what the end does

-- the status of a call that was made or not, and of an end's refusal
abbrev pub said_status : Result (Result (Unit {0}) Error) ℕ → ℕ
said_status (Ok (Ok done)) = ok
said_status (Ok (Err error)) = kind_status error.error_type
said_status (Err status) = status

module _ {C : Type 0} (c : Meaning ContextSetting C) (handing : TsRequest → TsRequest) where
  -- one call of the client on what was delivered, as it is passed in; or none, if the message is
  -- not a request or memory runs out
  abbrev pub ClientDoes : List ℕ → ClientView C → Last → Result (Result (Unit {0}) Error) ℕ →
      ClientView C → Last → Type 0
  ClientDoes bytes old before (Ok said) new last =
      (d : TsRequest) × IsDelivered bytes (Ok d) × ClientCalled c old (handing d) said new last
  ClientDoes bytes old before (Err status) new last =
      (new ≡ old) × (last ≡ before) × (status ≢ insufficient_memory →
      IsDelivered bytes (Err status))

  -- the same for the server
  abbrev pub ServerDoes : List ℕ → ServerView C Peers → Last → Result (Result (Unit {0}) Error) ℕ →
      ServerView C Peers → Last → Type 0
  ServerDoes bytes old before (Ok said) new last =
      (d : TsRequest) × IsRead bytes (Ok d) ×
      ServerCalled c peers_meaning old (handing d) said new last
  ServerDoes bytes old before (Err status) new last =
      (new ≡ old) × (last ≡ before) × (status ≢ insufficient_memory → IsRead bytes (Err status))

-- ---- the calls

abbrev pub as_it_came : TsRequest → TsRequest
as_it_came d = d

-- over plain NTLM nothing is reported
abbrev pub is_bare : List ℕ → ℕ → List ℕ → Bool
is_bare step field text = (length step == 0) && (field == 0) && (length text == 0)

module _ (bytes step : List ℕ) (after : Option Object) (status : ℕ) where
  abbrev pub HostedClient : Box (ClientEnd OutsideState OutsideState) →
      Option (Option (List ℕ) × Option (List ℕ)) → Type 0
  HostedClient end None = (status ≡ invalid_parameter) × (after ≡ Some (Client end))
  HostedClient end (Some texts) = (said : Result (Result (Unit {0}) Error) ℕ) ×
      (next : ClientEnd OutsideState OutsideState) ×
      ClientDoes hosted (λ d. handed d step texts.0 texts.1) bytes end.value.client end.value.last
      said next.client next.last ×
      (status ≡ said_status said) × (after ≡ Some (Client (with_value end next)))

  abbrev pub HostedServer : Box (ServerEnd OutsideState OutsideState Peers) →
      Option (Option (List ℕ) × Option (List ℕ)) → Type 0
  HostedServer end None = (status ≡ invalid_parameter) × (after ≡ Some (Server end))
  HostedServer end (Some texts) = (said : Result (Result (Unit {0}) Error) ℕ) ×
      (next : ServerEnd OutsideState OutsideState Peers) ×
      ServerDoes hosted (λ d. handed d step texts.0 texts.1) bytes end.value.server end.value.last
      said next.server next.last ×
      (status ≡ said_status said) × (after ≡ Some (Server (with_value end next)))

  abbrev pub BareClient : Box (ClientEnd NtlmState NtlmState) → Bool → Type 0
  BareClient end false = (status ≡ invalid_parameter) × (after ≡ Some (PlainClient end))
  BareClient end true = (said : Result (Result (Unit {0}) Error) ℕ) ×
      (next : ClientEnd NtlmState NtlmState) ×
      ClientDoes plain as_it_came bytes end.value.client end.value.last said next.client next.last ×
      (status ≡ said_status said) × (after ≡ Some (PlainClient (with_value end next)))

  abbrev pub BareServer : Box (ServerEnd NtlmState NtlmState Peers) → Bool → Type 0
  BareServer end false = (status ≡ invalid_parameter) × (after ≡ Some (PlainServer end))
  BareServer end true = (said : Result (Result (Unit {0}) Error) ℕ) ×
      (next : ServerEnd NtlmState NtlmState Peers) ×
      ServerDoes plain as_it_came bytes end.value.server end.value.last said next.server next.last ×
      (status ≡ said_status said) × (after ≡ Some (PlainServer (with_value end next)))

  -- nothing changes if the handle has no such end
  abbrev pub Unfit : Option Object → Type 0
  Unfit before = (status ≡ invalid_handle) × (after ≡ before)

  abbrev pub ProcessesClient : ℕ → List ℕ → Option Object → Type 0
  ProcessesClient field text None = Unfit None
  ProcessesClient field text (Some (Client end)) = HostedClient end (reported field text)
  ProcessesClient field text (Some (PlainClient end)) = BareClient end (is_bare step field text)
  ProcessesClient field text (Some (Request r)) = Unfit (Some (Request r))
  ProcessesClient field text (Some (Reader r)) = Unfit (Some (Reader r))
  ProcessesClient field text (Some (Init t)) = Unfit (Some (Init t))
  ProcessesClient field text (Some (Targ t)) = Unfit (Some (Targ t))
  ProcessesClient field text (Some (Credentials c)) = Unfit (Some (Credentials c))
  ProcessesClient field text (Some (Identities l)) = Unfit (Some (Identities l))
  ProcessesClient field text (Some (Server e)) = Unfit (Some (Server e))
  ProcessesClient field text (Some (PlainServer e)) = Unfit (Some (PlainServer e))
  ProcessesClient field text (Some (Course c)) = Unfit (Some (Course c))

  abbrev pub ProcessesServer : ℕ → List ℕ → Option Object → Type 0
  ProcessesServer field text None = Unfit None
  ProcessesServer field text (Some (Server end)) = HostedServer end (reported field text)
  ProcessesServer field text (Some (PlainServer end)) = BareServer end (is_bare step field text)
  ProcessesServer field text (Some (Request r)) = Unfit (Some (Request r))
  ProcessesServer field text (Some (Reader r)) = Unfit (Some (Reader r))
  ProcessesServer field text (Some (Init t)) = Unfit (Some (Init t))
  ProcessesServer field text (Some (Targ t)) = Unfit (Some (Targ t))
  ProcessesServer field text (Some (Credentials c)) = Unfit (Some (Credentials c))
  ProcessesServer field text (Some (Identities l)) = Unfit (Some (Identities l))
  ProcessesServer field text (Some (Client e)) = Unfit (Some (Client e))
  ProcessesServer field text (Some (PlainClient e)) = Unfit (Some (PlainClient e))
  ProcessesServer field text (Some (Course c)) = Unfit (Some (Course c))
