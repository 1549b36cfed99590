-- What a mode supplies of its authentication, and the messages of an undisturbed exchange, which follow of it.
use Rattle.std.proofs.Common.{◌≡◌, ◌≢◌, ℕ, zero, suc, ◌+◌, ◌≤◌, ◌<◌, ◌-◌, ◌^◌, Bool, true, false, List, [], ◌∷◌, length, Option, None}
use Rattle.std.proofs.Common.{Some, Ok, refl, ap, arith, nat_lt, if◌then◌else◌}
use Rattle.sspi_types.specs.declared.credential_use.CredentialUse.TheVariants.{Outbound}
use Rattle.sspi_types.specs.declared.error_kind.ErrorKind.{ErrorKind}
use Rattle.sspi_types.specs.declared.security_status.SecurityStatus.TheVariants as statuses
use Rattle.sspi_names.specs.declared.credentials.CredentialsBuffers.{CredentialsBuffers}
use Rattle.sspi_names.specs.declared.identity.AuthIdentity.{AuthIdentity}
use Rattle.sspi_tsreq.specs.declared.request.TsRequest.{TsRequest}
use Rattle.sspi_tsreq.specs.Spelling.{carried, carries_code, carries_nonce}
use Rattle.sspi_tsreq.specs.Grammar.{first_request}
use Rattle.sspi_mech.specs.declared.step.Step.{Step}
use Rattle.sspi_mech.specs.Context.{IsContext}
use Rattle.sspi_mech.specs.Meaning.{Meaning}
use Rattle.sspi_credssp.specs.declared.public_key.EndpointType.TheVariants as endpoint
use Rattle.sspi_credssp.specs.Context.{BeginCause, ContextSetting, ForClient}
use Rattle.sspi_credssp.specs.Ends.{ClientView, ServerView}
use Rattle.sspi_credssp.specs.Exchange.{delegated_text, delegated_identity, prescribed}
use Rattle.sspi_credssp.specs.Requests.{nonce_of, unless_empty}
use Rattle.sspi_credssp.specs.Proxy.{ProxyMeaning}
use Rattle.sspi_credssp.specs.ServerCause.{MakeCause}
use Rattle.sspi_credssp.specs.Turn.{IsOver}
use Rattle.sspi_delegate.specs.Chain.{KdcCalls}
use Rattle.sspi_completeness.proofs.Accepting.{IsPeer, Takes}
use Rattle.sspi_completeness.proofs.ClientTurns.{Walks}
use Rattle.sspi_completeness.proofs.Ends.{IsMaker, IsTaker}
use Rattle.sspi_completeness.proofs.Fits.{IsMessage, IsNonce, is_message, nonce_kept, nonce_size, prescribed_length}
use Rattle.sspi_completeness.proofs.Lengths.{size_of, no_code}

-- What the ends of every mode have: one key and one kind of proof, and credentials with a text that delegates this identity.
pub record AreAlike {C P : Type 0} (a : ClientView C) (b : ServerView C P) (text : List ℕ) (identity : AuthIdentity) : Type 0 where
  pub key_same : b.settings.public_key ≡ a.settings.public_key
  pub key_short : length a.settings.public_key ≤ 262144
  pub versions : nat_lt a.settings.version 5 ≡ nat_lt b.settings.version 5
  pub client_takes : nat_lt b.settings.version a.settings.least ≡ false
  pub server_takes : nat_lt a.settings.version b.settings.least ≡ false
  pub client_version : a.settings.version < 2 ^ 32
  pub server_version : b.settings.version < 2 ^ 32
  pub nonce : length a.settings.nonce ≡ 32
  pub text_is : delegated_text a.settings.credentials a.settings.delegation ≡ Ok text
  pub text_short : length text ≤ 294972
  pub delegates : delegated_identity text ≡ Ok identity

-- the server's last step; if its authentication ends early, the one before the client's proof comes
abbrev pub last_step : Bool → ℕ → ℕ
last_step true j = j
last_step false j = suc j

module _ {C D P : Type 0} (c : Meaning ContextSetting C) (laws : IsContext c) (k : KdcCalls D) (p : ProxyMeaning P)
    (a : ClientView C) (b : ServerView C P) (kdc_first : D) where
  -- An authentication of j + 1 messages of the client that ask for more and one that ends it, evaluated: the steps of both
  -- ends and their contexts, each by its number from 0 on; `early` where the server's ends before the client's.
  pub record IsNegotiation (j : ℕ) (early : Bool) : Type 1 where
    pub client_step : ℕ → Step
    pub server_step : ℕ → Step
    -- the contexts before the step of a number other than 0, the acquired credentials, and the KDC
    pub client_context : ℕ → C
    pub server_context : ℕ → C
    pub client_handle : Option CredentialsBuffers
    pub server_handle : Option CredentialsBuffers
    pub KdcAt : ℕ → D → Type 0
    -- the server's context once its peer is named, and the messages that each end's context makes
    pub peer_context : C
    pub ups : ℕ → List ℕ → List ℕ
    pub downs : ℕ → List ℕ → List ℕ
    pub client_begins : (kind : ErrorKind) → BeginCause c (ForClient a.settings.mode) Outbound (Some a.settings.credentials) kind → ⊥
    pub server_begins : (before now : P) (kind : ErrorKind) → p.faults now ≡ p.faults before → p.faults before < 2 ^ 64 - 1 →
        MakeCause c p b.settings.mode before now kind → ⊥
    pub kdc_start : KdcAt 0 kdc_first
    pub walks_first : (old : ClientView C) (kdc : D) → old.settings ≡ a.settings → old.context ≡ None → KdcAt 0 kdc →
        Walks c laws k old kdc None (client_step 0) (client_context 1) client_handle (KdcAt 1)
    pub walks : (n : ℕ) (old : ClientView C) (kdc : D) → n ≤ j → old.settings ≡ a.settings → old.context ≡ Some (client_context (suc n)) →
        old.handle ≡ client_handle →
        KdcAt (suc n) kdc →
        Walks c laws k old kdc (Some (server_step n).output) (client_step (suc n)) (client_context (suc (suc n))) client_handle
        (KdcAt (suc (suc n)))
    pub takes_first : (old : ServerView C P) → old.settings ≡ b.settings → p.told old.proxy ≡ p.told b.proxy → old.context ≡ None →
        Takes c laws p old (Some (client_step 0).output) (server_step 0) (server_context 1) server_handle
    pub takes : (n : ℕ) (old : ServerView C P) → suc n ≤ last_step early j → old.settings ≡ b.settings →
        old.context ≡ Some (server_context (suc n)) →
        old.handle ≡ server_handle →
        Takes c laws p old (Some (client_step (suc n)).output) (server_step (suc n)) (server_context (suc (suc n))) server_handle
    pub client_goes : (n : ℕ) → n ≤ j → (client_step n).status ≡ statuses.ContinueNeeded
    pub client_ends : (client_step (suc j)).status ≡ statuses.Ok
    pub server_goes : (n : ℕ) → n < last_step early j → (server_step n).status ≡ statuses.ContinueNeeded
    pub server_ends : IsOver (Some (server_step (last_step early j)).status)
    pub server_speaks : early ≡ true → (server_step j).output ≢ []
    pub peer : IsPeer c laws (p.told b.proxy) (server_context (suc (last_step early j))) peer_context
    pub client_maker : IsMaker c (client_context (suc (suc j))) ups
    pub client_taker : IsTaker c (client_context (suc (suc j))) downs
    pub server_maker : IsMaker c peer_context downs
    pub server_taker : IsTaker c peer_context ups
    pub client_short : (n : ℕ) → n ≤ suc j → length (client_step n).output ≤ 65536
    pub server_short : (n : ℕ) → n ≤ j → length (server_step n).output ≤ 65536
    pub ups_short : (n : ℕ) (text : List ℕ) → length (ups n text) ≤ length text + 64
    pub downs_short : (n : ℕ) (text : List ℕ) → length (downs n text) ≤ length text + 64

-- ---- what is carried of messages

nonce_none : (b : Bool) (nonce : Option (List ℕ)) → nonce ≡ None → (if b then nonce else None) ≡ None
nonce_none true nonce none = none
nonce_none false nonce none = refl

-- a request with a token and nothing else
pub record IsTokenOnly (d : TsRequest) : Type 0 where
  pub credentials : d.auth_info ≡ None
  pub proof : d.pub_key_auth ≡ None
  pub nonce : d.client_nonce ≡ None
  pub code : d.error_code ≡ None

pub carried_only : (d : TsRequest) → IsTokenOnly d → IsTokenOnly (carried d)
carried_only d only = record {
  credentials = only.credentials;
  proof = only.proof;
  nonce = nonce_none (carries_nonce d.version) d.client_nonce only.nonce;
  code = no_code (carries_code d.version) d.error_code only.code;
}

none_size : (field : Option (List ℕ)) → field ≡ None → size_of field ≤ 0
none_size field none = rw none (omega arith)

token_fits : (d : TsRequest) (version : ℕ) (token : List ℕ) → IsTokenOnly d → version < 2 ^ 32 → length token ≤ 65536 →
    IsMessage (record d { version = version; nego_tokens = Some token })
token_fits d version token only small short =
    let credentials = none_size d.auth_info only.credentials in
    let proof = none_size d.pub_key_auth only.proof in
    let nonce = none_size d.client_nonce only.nonce in
    is_message (record d { version = version; nego_tokens = Some token }) small only.code (rw only.nonce tt)
    (omega (arith, short, credentials, proof, nonce))

unless_size : (token : List ℕ) → size_of (unless_empty token) ≤ length token
unless_size [] = omega arith
unless_size (x ∷ token) = omega arith

-- ---- the messages

module _ {C D P : Type 0} (c : Meaning ContextSetting C) (laws : IsContext c) (k : KdcCalls D) (p : ProxyMeaning P)
    (a : ClientView C) (b : ServerView C P) (kdc_first : D) (j : ℕ) (early : Bool) (it : IsNegotiation c laws k p a b kdc_first j early)
    (text : List ℕ) (identity : AuthIdentity) (alike : AreAlike a b text identity) where
  -- what the client is given before its token of a number
  abbrev pub given_token : ℕ → TsRequest
  given_token zero = first_request
  given_token (suc n) = carried (record (carried (record (given_token n)
      { version = a.settings.version; nego_tokens = Some (it.client_step n).output })) {
        version = b.settings.version;
        nego_tokens = Some (it.server_step n).output;
      })

  -- the client's token of a number and the server's answer
  abbrev pub up_token : ℕ → TsRequest
  up_token n = record (given_token n) { version = a.settings.version; nego_tokens = Some (it.client_step n).output }

  abbrev pub down_token : ℕ → TsRequest
  down_token n = record (carried (up_token n)) { version = b.settings.version; nego_tokens = Some (it.server_step n).output }

  abbrev pub proof_message : TsRequest
  proof_message = record (carried (down_token j)) {
    version = a.settings.version;
    nego_tokens = unless_empty (it.client_step (suc j)).output;
    client_nonce = Some a.settings.nonce;
    pub_key_auth = Some (it.ups 0 (prescribed endpoint.Client b.settings.version a.settings.nonce a.settings.public_key));
  }

  abbrev pub sent_nonce : Option (List ℕ)
  sent_nonce = (carried proof_message).client_nonce

  abbrev pub answer_message : TsRequest
  answer_message = record (carried proof_message) {
    version = b.settings.version;
    nego_tokens = None;
    pub_key_auth = Some (it.downs 0 (prescribed endpoint.Server a.settings.version (nonce_of sent_nonce) b.settings.public_key));
  }

  abbrev pub last_message : TsRequest
  last_message = record (carried answer_message) {
    version = a.settings.version;
    nego_tokens = None;
    pub_key_auth = None;
    auth_info = Some (it.ups 1 text);
  }

  pub given_only : (n : ℕ) → IsTokenOnly (given_token n)
  given_only zero = record { credentials = refl; proof = refl; nonce = refl; code = refl }
  given_only (suc n) =
      let before = given_only n in
      let sent : IsTokenOnly (up_token n) = record {
        credentials = before.credentials;
        proof = before.proof;
        nonce = before.nonce;
        code = before.code;
      } in
      let taken = carried_only (up_token n) sent in
      carried_only (down_token n) (record { credentials = taken.credentials; proof = taken.proof; nonce = taken.nonce; code = taken.code })

  pub up_only : (n : ℕ) → IsTokenOnly (up_token n)
  up_only n = let before = given_only n in record {
    credentials = before.credentials;
    proof = before.proof;
    nonce = before.nonce;
    code = before.code;
  }

  pub taken_only : (n : ℕ) → IsTokenOnly (carried (up_token n))
  taken_only n = carried_only (up_token n) (up_only n)

  pub up_fits : (n : ℕ) → n ≤ j → IsMessage (up_token n)
  up_fits n within = token_fits (given_token n) a.settings.version (it.client_step n).output (given_only n) alike.client_version
      (it.client_short n (omega (arith, within)))

  pub down_fits : (n : ℕ) → n ≤ j → IsMessage (down_token n)
  down_fits n within = token_fits (carried (up_token n)) b.settings.version (it.server_step n).output (taken_only n) alike.server_version
      (it.server_short n within)

  proof_code : proof_message.error_code ≡ None
  proof_code = (given_only (suc j)).code

  pub proof_fits : IsMessage proof_message
  proof_fits =
      let only = given_only (suc j) in
      let token = unless_size (it.client_step (suc j)).output in
      let short = it.client_short (suc j) (omega arith) in
      let blob = it.ups_short 0 (prescribed endpoint.Client b.settings.version a.settings.nonce a.settings.public_key) in
      let proof = prescribed_length endpoint.Client b.settings.version a.settings.nonce a.settings.public_key alike.key_short in
      let credentials = none_size proof_message.auth_info only.credentials in
      is_message proof_message alike.client_version proof_code alike.nonce
      (omega (arith, token, short, blob, proof, credentials, alike.nonce))

  answer_nonce : IsNonce answer_message.client_nonce
  answer_nonce = nonce_kept (carries_nonce a.settings.version) (Some a.settings.nonce) alike.nonce

  pub answer_code : answer_message.error_code ≡ None
  answer_code = no_code (carries_code a.settings.version) proof_message.error_code proof_code

  server_key_short : length b.settings.public_key ≤ 262144
  server_key_short = omega (arith, ap length alike.key_same, alike.key_short)

  pub answer_fits : IsMessage answer_message
  answer_fits =
      let only = given_only (suc j) in
      let blob = it.downs_short 0 (prescribed endpoint.Server a.settings.version (nonce_of sent_nonce) b.settings.public_key) in
      let proof = prescribed_length endpoint.Server a.settings.version (nonce_of sent_nonce) b.settings.public_key server_key_short in
      let size = nonce_size answer_message.client_nonce answer_nonce in
      let credentials = none_size answer_message.auth_info only.credentials in
      is_message answer_message alike.server_version answer_code answer_nonce (omega (arith, blob, proof, size, credentials))

  last_nonce : IsNonce last_message.client_nonce
  last_nonce = nonce_kept (carries_nonce b.settings.version) answer_message.client_nonce answer_nonce

  pub last_fits : IsMessage last_message
  last_fits =
      let blob = it.ups_short 1 text in
      let size = nonce_size last_message.client_nonce last_nonce in
      is_message last_message alike.client_version
      (no_code (carries_code b.settings.version) answer_message.error_code answer_code) last_nonce
      (omega (arith, blob, alike.text_short, size))
