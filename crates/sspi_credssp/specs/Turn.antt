-- One turn of an end: the message that it has for the peer, and the end's data at it; what recorded
-- bytes can show of it; and what the end's context, key and nonce require of it (MS-CSSP 3.1.5).
use Rattle.std.specs.Prelude.{◌≡◌, ℕ, Option, None, Some, Bool, true, false, ◌≢◌, ◌⊎◌, List, []}
use Rattle.std.specs.Prelude.{length, IsSome, nat_lt}
use Rattle.sspi_types.specs.declared.error_kind.ErrorKind.{ErrorKind}
use Rattle.sspi_types.specs.declared.security_status.SecurityStatus.{SecurityStatus}
use Rattle.sspi_types.specs.declared.security_status.SecurityStatus.TheVariants as statuses
use Rattle.sspi_tsreq.specs.declared.request.TsRequest.{TsRequest}
use Rattle.sspi_mech.specs.Meaning.{Meaning}
use Rattle.sspi_credssp.specs.declared.public_key.EndpointType.TheVariants.{Client, Server}
use Rattle.sspi_credssp.specs.declared.state.CredSspState.{CredSspState}
use Rattle.sspi_credssp.specs.declared.state.CredSspState.TheVariants.{NegoToken, PubKeyInfo}
use Rattle.sspi_credssp.specs.declared.state.CredSspState.TheVariants.{AuthInfo, Final}
use Rattle.sspi_credssp.specs.declared.turn.Outcome.{Outcome}
use Rattle.sspi_credssp.specs.declared.turn.Outcome.TheVariants as outcome
use Rattle.sspi_credssp.specs.declared.turn.Turn.{Turn}
use Rattle.sspi_credssp.specs.Acts.{no_acts, CountsEachAct, SameBut, SealsIn, OpensIn}
use Rattle.sspi_credssp.specs.Context.{ContextSetting}
use Rattle.sspi_credssp.specs.Ends.{ClientSettings, ServerSettings}
use Rattle.sspi_credssp.specs.Exchange.{delegated_text, IfText, prescribed}
use Rattle.sspi_credssp.specs.Requests.{error_request, unless_empty, is_code, IsLong, version_back}
use Rattle.sspi_credssp.specs.Requests.{nonce_of}

-- the message that a turn has for the peer
abbrev pub message_of : Outcome → Option TsRequest
message_of (outcome.Reply reply) = Some reply
message_of (outcome.Final reply) = Some reply
message_of outcome.Finished = None
message_of (outcome.Refused kind reply) = reply

-- a fact of each turn that was not refused
abbrev pub UnlessRefused : Outcome → Type 0 → Type 0
UnlessRefused (outcome.Reply reply) P = P
UnlessRefused (outcome.Final reply) P = P
UnlessRefused outcome.Finished P = P
UnlessRefused (outcome.Refused kind reply) P = Unit {0}

-- a fact of each turn past the authentication
abbrev pub OnceNegotiated : CredSspState → Type 0 → Type 0
OnceNegotiated NegoToken P = Unit {0}
OnceNegotiated PubKeyInfo P = P
OnceNegotiated AuthInfo P = P
OnceNegotiated Final P = P

-- a fact of the peer's version, which must be pinned
abbrev pub AtNoted : Option ℕ → (ℕ → Type 0) → Type 0
AtNoted None P = ⊥
AtNoted (Some version) P = P version

-- a turn that checks its peer's version pins it, or finds that it is the pinned one
abbrev pub FitsNoted : Bool → Option ℕ → ℕ → Type 0
FitsNoted false noted version = Unit {0}
FitsNoted true noted version = AtNoted noted (λ n. version ≡ n)

-- An end's data at a turn: its settings; its state before the turn; the numbers of this turn's
-- messages among those that its context sealed and opened; whether it checks the delivered version,
-- as in each turn but a client's first; the version that is pinned once the turn is over; and its
-- context.
pub record Frame (S C : Type 0) : Type 0 where
  pub settings : S
  pub state : CredSspState
  pub made : ℕ
  pub opened : ℕ
  pub looks : Bool
  pub noted : Option ℕ
  pub context : Option C

abbrev pub ClientFrame : Type 0 → Type 0
ClientFrame C = Frame ClientSettings C

abbrev pub ServerFrame : Type 0 → Type 0
ServerFrame C = Frame ServerSettings C

-- An end's context until a turn uses it: nothing has been sealed or opened yet, and past the
-- authentication it differs only in its counts.
pub record IsUnspent {S C : Type 0} (c : Meaning S C) (start : CredSspState)
    (before context : Option C) : Type 0 where
  pub counts : CountsEachAct c start before no_acts context
  pub bare : OnceNegotiated start (SameBut c before context)

-- ---- What recorded bytes can show of a turn, whatever its context, key and nonce: which effects
-- it may have had, and the message that it owes (MS-CSSP 3.1.5).

-- What is known of an end at a turn: its state before the turn; whether it checks the delivered
-- version; the version that is pinned once the turn is over; and its own version, if that is known.
pub record ShownFrame : Type 0 where
  pub state : CredSspState
  pub looks : Bool
  pub noted : Option ℕ
  pub version : Option ℕ

abbrev pub client_shown : {C : Type 0} → ClientFrame C → ShownFrame
client_shown f = record {
  state = f.state;
  looks = f.looks;
  noted = f.noted;
  version = Some f.settings.version;
}

abbrev pub server_shown : {C : Type 0} → ServerFrame C → ShownFrame
server_shown f = record {
  state = f.state;
  looks = true;
  noted = f.noted;
  version = Some f.settings.version;
}

-- a message has its end's own version, if that is known
abbrev pub IsOwn : Option ℕ → ℕ → Type 0
IsOwn None version = Unit {0}
IsOwn (Some own) version = version ≡ own

-- ---- shown of a client

-- which effects a turn may have had, even one that was refused
pub record ShowsClientActs (f : ShownFrame) (t : Turn) : Type 0 where
  pub negotiated : t.acts.negotiated ≡ true → f.state ≡ NegoToken
  pub answered : IsSome t.acts.status → t.acts.negotiated ≡ true
  pub proved : t.acts.proved ≡ true → (t.acts.status ≡ Some statuses.Ok) × IsSome f.noted
  pub checked : t.acts.checked ≡ true → (f.state ≡ AuthInfo) × IsLong t.delivered.pub_key_auth
  pub sealed : t.acts.sealed ≡ true → t.acts.checked ≡ true
  pub opened : t.acts.opened ≡ false

-- the authentication goes on: the request goes back with the next token
pub record ShowsToken (f : ShownFrame) (t : Turn) (r : TsRequest) : Type 0 where
  pub state : f.state ≡ NegoToken
  pub version : IsOwn f.version r.version
  pub reply : r ≡ record t.delivered { version = r.version; nego_tokens = Some t.output }

-- the authentication has ended: the request goes back with a nonce and the client's proof
pub record ShowsProof (f : ShownFrame) (t : Turn) (r : TsRequest) : Type 0 where
  pub state : f.state ≡ NegoToken
  pub proved : t.acts.proved ≡ true
  pub version : IsOwn f.version r.version
  pub nonce : IsSome r.client_nonce
  pub reply : r ≡ record t.delivered {
    version = r.version;
    nego_tokens = unless_empty t.output;
    client_nonce = r.client_nonce;
    pub_key_auth = r.pub_key_auth;
  }

-- the server's proof was checked: the request goes back with the credentials
pub record ShowsFinal (f : ShownFrame) (t : Turn) (r : TsRequest) : Type 0 where
  pub state : f.state ≡ AuthInfo
  pub checked : t.acts.checked ≡ true
  pub sealed : t.acts.sealed ≡ true
  pub version : IsOwn f.version r.version
  pub reply : r ≡ record t.delivered {
    version = r.version;
    nego_tokens = None;
    pub_key_auth = None;
    auth_info = r.auth_info;
  }

abbrev pub ShowsNego : ShownFrame → Turn → Option SecurityStatus → TsRequest → Type 0
ShowsNego f t None r = ⊥
ShowsNego f t (Some statuses.Ok) r = ShowsProof f t r
ShowsNego f t (Some other) r = ShowsToken f t r

abbrev pub ShowsReply : ShownFrame → Turn → Outcome → Type 0
ShowsReply f t (outcome.Reply r) = ShowsNego f t t.acts.status r
ShowsReply f t (outcome.Final r) = ShowsFinal f t r
ShowsReply f t (outcome.Refused kind None) = Unit {0}
ShowsReply f t other = ⊥

pub record ShowsClient (f : ShownFrame) (t : Turn) : Type 0 where
  pub code : UnlessRefused t.outcome (is_code t.delivered.error_code ≡ false)
  pub version : UnlessRefused t.outcome (FitsNoted f.looks f.noted t.delivered.version)
  pub acts : ShowsClientActs f t
  pub reply : ShowsReply f t t.outcome

-- ---- shown of a server

-- a fact of a refused turn
abbrev pub IfRefused : Outcome → Type 0 → Type 0
IfRefused (outcome.Refused kind reply) P = P
IfRefused other P = Unit {0}

-- the authentication has ended
abbrev pub IsOver : Option SecurityStatus → Type 0
IsOver (Some statuses.Ok) = Unit {0}
IsOver (Some statuses.CompleteNeeded) = Unit {0}
IsOver other = ⊥

-- the client's proof may be opened
abbrev pub MayCheck : CredSspState → Option SecurityStatus → Type 0
MayCheck NegoToken status = IsOver status
MayCheck PubKeyInfo status = Unit {0}
MayCheck other status = ⊥

-- a version below 5 needs no nonce, and any other needs one of 32 bytes
abbrev pub HasNonce : Bool → Option (List ℕ) → Type 0
HasNonce true sent_nonce = Unit {0}
HasNonce false None = ⊥
HasNonce false (Some sent_nonce) = length sent_nonce ≡ 32

-- which effects a turn may have had, even one that was refused
pub record ShowsServerActs (f : ShownFrame) (t : Turn) : Type 0 where
  pub negotiated : t.acts.negotiated ≡ true → f.state ≡ NegoToken
  pub answered : IsSome t.acts.status → t.acts.negotiated ≡ true
  pub checked : t.acts.checked ≡ true → MayCheck f.state t.acts.status ×
      IsLong t.delivered.pub_key_auth
  pub proved : t.acts.proved ≡ true → (t.acts.checked ≡ true) ×
      AtNoted f.noted (λ noted. HasNonce (nat_lt noted 5) t.delivered.client_nonce)
  pub opened : t.acts.opened ≡ true → (f.state ≡ AuthInfo) × IsLong t.delivered.auth_info
  pub sealed : t.acts.sealed ≡ false

-- the request goes back with the next token
pub record ShowsTokenBack (f : ShownFrame) (t : Turn) (r : TsRequest) : Type 0 where
  pub unproved : t.acts.proved ≡ false
  pub version : IsOwn f.version r.version
  pub reply : r ≡ record t.delivered { version = r.version; nego_tokens = Some t.output }

-- the request goes back with the server's proof
pub record ShowsProofBack (f : ShownFrame) (t : Turn) (r : TsRequest) : Type 0 where
  pub checked : t.acts.checked ≡ true
  pub proved : t.acts.proved ≡ true
  pub version : IsOwn f.version r.version
  pub reply : r ≡ record t.delivered {
    version = r.version;
    nego_tokens = None;
    pub_key_auth = r.pub_key_auth;
  }

-- the authentication has ended: a client's proof that is already there is answered, otherwise a
-- token asks for it
abbrev pub ShowsOver : ShownFrame → Turn → Option (List ℕ) → TsRequest → Type 0
ShowsOver f t None r = ShowsTokenBack f t r × (t.output ≢ [])
ShowsOver f t (Some blob) r = ShowsProofBack f t r

abbrev pub ShowsNegoBack : ShownFrame → Turn → Option SecurityStatus → TsRequest → Type 0
ShowsNegoBack f t (Some statuses.ContinueNeeded) r = ShowsTokenBack f t r
ShowsNegoBack f t (Some statuses.CompleteNeeded) r = ShowsOver f t t.delivered.pub_key_auth r
ShowsNegoBack f t (Some statuses.Ok) r = ShowsOver f t t.delivered.pub_key_auth r
ShowsNegoBack f t other r = ⊥

abbrev pub ShowsStateBack : ShownFrame → Turn → CredSspState → TsRequest → Type 0
ShowsStateBack f t NegoToken r = ShowsNegoBack f t t.acts.status r
ShowsStateBack f t PubKeyInfo r = ShowsProofBack f t r
ShowsStateBack f t other r = ⊥

-- which version an error request has: the delivered one, or the server's own; any if the latter is
-- not known
abbrev pub IsVersionBack : Option ℕ → ℕ → ℕ → Type 0
IsVersionBack None delivered version = Unit {0}
IsVersionBack (Some own) delivered version = (version ≡ delivered) ⊎ (version ≡ own)

-- the request goes back with the code of the refusal
pub record ShowsError (f : ShownFrame) (t : Turn) (kind : ErrorKind) (r : TsRequest) : Type 0 where
  pub version : IsVersionBack f.version t.delivered.version r.version
  pub reply : r ≡ error_request f.state r.version kind t.delivered

abbrev pub ShowsAnswer : ShownFrame → Turn → Outcome → Type 0
ShowsAnswer f t (outcome.Reply r) = ShowsStateBack f t f.state r
ShowsAnswer f t outcome.Finished = (f.state ≡ AuthInfo) × (t.acts.opened ≡ true)
ShowsAnswer f t (outcome.Refused kind (Some r)) = ShowsError f t kind r
ShowsAnswer f t other = ⊥

pub record ShowsServer (f : ShownFrame) (t : Turn) : Type 0 where
  pub version : UnlessRefused t.outcome (FitsNoted f.looks f.noted t.delivered.version)
  pub acts : ShowsServerActs f t
  pub reply : ShowsAnswer f t t.outcome

-- ---- What context, key and nonce require of a turn, and bytes cannot show (MS-CSSP 3.1.5).

module _ {C : Type 0} (c : Meaning ContextSetting C) where
  -- ---- required of a client's turn

  -- the proof is made over the client's nonce and key
  pub record HoldsProof (f : ClientFrame C) (r : TsRequest) : Type 0 where
    pub nonce : r.client_nonce ≡ Some f.settings.nonce
    pub proof : AtNoted f.noted (λ noted. SealsIn c f.context f.made
        (prescribed Client noted f.settings.nonce f.settings.public_key) r.pub_key_auth)

  abbrev pub HoldsNego : ClientFrame C → Option SecurityStatus → TsRequest → Type 0
  HoldsNego f (Some statuses.Ok) r = HoldsProof f r
  HoldsNego f other r = Unit {0}

  -- the credentials are those of the client
  abbrev pub HoldsReply : ClientFrame C → Option SecurityStatus → Outcome → Type 0
  HoldsReply f status (outcome.Reply r) = HoldsNego f status r
  HoldsReply f status (outcome.Final r) =
      IfText (delegated_text f.settings.credentials f.settings.delegation)
      (λ text. SealsIn c f.context f.made text r.auth_info)
  HoldsReply f status outcome.Finished = Unit {0}
  HoldsReply f status (outcome.Refused kind reply) = Unit {0}

  -- the credentials are sealed only once the delivered pubKeyAuth has opened to the proof that the
  -- server owes
  pub record HoldsClient (f : ClientFrame C) (t : Turn) : Type 0 where
    pub sealed : t.acts.sealed ≡ true →
        AtNoted f.noted (λ noted. OpensIn c f.context f.opened t.delivered.pub_key_auth
        (prescribed Server noted f.settings.nonce f.settings.public_key))
    pub reply : HoldsReply f t.acts.status t.outcome

  -- ---- required of a server's turn

  -- the client's proof was the right one, and from version 5 on it was made with a nonce
  pub record Proven (context : Option C) (opened : ℕ) (public_key : List ℕ) (d : TsRequest)
      (noted : ℕ) : Type 0 where
    pub opens : OpensIn c context opened d.pub_key_auth
        (prescribed Client noted (nonce_of d.client_nonce) public_key)
    pub nonce : HasNonce (nat_lt noted 5) d.client_nonce

  -- the server's proof is made over the delivered nonce and its own key
  abbrev pub HoldsProofBack : ServerFrame C → TsRequest → TsRequest → Type 0
  HoldsProofBack f d r = AtNoted f.noted (λ noted. SealsIn c f.context f.made
      (prescribed Server noted (nonce_of d.client_nonce) f.settings.public_key) r.pub_key_auth)

  abbrev pub HoldsAnswer : ServerFrame C → Turn → Outcome → Type 0
  HoldsAnswer f t (outcome.Reply r) = t.acts.proved ≡ true → HoldsProofBack f t.delivered r
  HoldsAnswer f t (outcome.Final r) = Unit {0}
  HoldsAnswer f t outcome.Finished = Unit {0}
  HoldsAnswer f t (outcome.Refused kind None) = Unit {0}
  HoldsAnswer f t (outcome.Refused kind (Some r)) =
      r.version ≡ version_back f.context f.noted t.delivered.version f.settings.version

  -- the server proves nothing unless the client's proof was the right one
  pub record HoldsServer (f : ServerFrame C) (t : Turn) : Type 0 where
    pub checked : t.acts.checked ≡ true →
        AtNoted f.noted (λ noted. HasNonce (nat_lt noted 5) t.delivered.client_nonce)
    pub proved : t.acts.proved ≡ true →
        AtNoted f.noted (Proven f.context f.opened f.settings.public_key t.delivered)
    pub reply : HoldsAnswer f t t.outcome
