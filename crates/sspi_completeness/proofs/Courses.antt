-- From the evaluated steps of both ends of a negotiation to all that the exchange needs of it.
use Rattle.std.proofs.Common.{◌≡◌, ◌≢◌, ◌↔◌, ℕ, zero, suc, ◌-◌, ◌≤◌, ◌<◌, ◌^◌, Bool, true, false, IsTrue, List, [], ◌∷◌, length, map}
use Rattle.std.proofs.Common.{Option, None, Some}
use Rattle.std.proofs.Common.{Result, Ok, refl, ap, sym, ◌∙◌, subst, arith}
use Rattle.std.specs.Result.{result_err}
use Rattle.sspi_types.specs.declared.credential_use.CredentialUse.{CredentialUse}
use Rattle.sspi_types.specs.declared.credential_use.CredentialUse.TheVariants.{Inbound, Outbound}
use Rattle.sspi_types.specs.declared.error_kind.ErrorKind.{ErrorKind}
use Rattle.sspi_types.specs.declared.security_status.SecurityStatus.TheVariants as statuses
use Rattle.sspi_names.specs.declared.credentials.Credentials.{Credentials}
use Rattle.sspi_names.specs.declared.credentials.Credentials.TheVariants as credentials
use Rattle.sspi_names.specs.declared.credentials.CredentialsBuffers.{CredentialsBuffers}
use Rattle.sspi_names.specs.declared.identity.AuthIdentity.{AuthIdentity}
use Rattle.sspi_names.specs.declared.network.NetworkRequest.{NetworkRequest}
use Rattle.sspi_names.specs.Name.{Name, domain_of}
use Rattle.sspi_mech.specs.declared.protection.Direction.TheVariants.{FromClient, FromServer}
use Rattle.sspi_mech.specs.declared.step.Reply.{Reply}
use Rattle.sspi_mech.specs.declared.step.Step.{Step}
use Rattle.sspi_mech.specs.Calls.{StepArgs, ToAcquire, ToComplete, ToName}
use Rattle.sspi_mech.specs.Context.{IsContext}
use Rattle.sspi_mech.specs.Kerberos.{kerberos_meaning}
use Rattle.sspi_mech.specs.Ntlm.{ntlm_meaning, absence}
use Rattle.sspi_negotiate.specs.declared.negotiate_config.NegotiateConfig.{NegotiateConfig}
use Rattle.sspi_negotiate.specs.declared.protocol.NegotiatedProtocol.TheVariants as hands
use Rattle.sspi_negotiate.specs.declared.protocol.Protocol.{Protocol}
use Rattle.sspi_negotiate.specs.declared.state.NegotiateState.TheVariants as states
use Rattle.sspi_negotiate.specs.declared.state.Role.TheVariants.{Client, Server}
use Rattle.sspi_negotiate.specs.Acquire.{Acquires}
use Rattle.sspi_negotiate.specs.Client.{spnego_client}
use Rattle.sspi_negotiate.specs.Hand.{Origin, hand_of}
use Rattle.sspi_negotiate.specs.New.{fresh, packages_in, IsUnmade}
use Rattle.sspi_negotiate.specs.Rule.{url_for, TakenBy}
use Rattle.sspi_negotiate.specs.Server.{spnego_server}
use Rattle.sspi_negotiate.specs.Target.{IsNamedByIp}
use Rattle.sspi_negotiate.specs.Values.{Values, Negotiation}
use Rattle.sspi_credssp.specs.declared.context.SspiContext.TheVariants as contexts
use Rattle.sspi_credssp.specs.declared.mode.ClientMode.{ClientMode}
use Rattle.sspi_credssp.specs.declared.mode.ClientMode.TheVariants as client_mode
use Rattle.sspi_credssp.specs.declared.mode.ServerMode.{ServerMode}
use Rattle.sspi_credssp.specs.declared.mode.ServerMode.TheVariants as server_mode
use Rattle.sspi_credssp.specs.Context.{Begun, goes_on, is_new, BeginCause, unmade, unacquired, ContextSetting, ForClient, ForServer}
use Rattle.sspi_credssp.specs.Ends.{ClientSettings, ClientView, ServerSettings, ServerView}
use Rattle.sspi_credssp.specs.ClientTurn.{client_args}
use Rattle.sspi_credssp.specs.Acts.{cleared}
use Rattle.sspi_credssp.specs.Proxy.{ProxyMeaning, ProxyTells, AreFound, AreCandidates, IsTold, candidates_of}
use Rattle.sspi_credssp.specs.ServerCause.{MakeCause, unlisted, unbegun, ListRefused, failed, nobody, IdentifyCause, nameless, looked}
use Rattle.sspi_credssp.specs.ServerCause.{unset}
use Rattle.sspi_credssp.specs.ServerTurn.{IsIdentified, is_identified, server_args, server_setting}
use Rattle.sspi_credssp.specs.Turn.{IsOver}
use Rattle.sspi_delegate.specs.Chain.{kdc_calls}
use Rattle.sspi_completeness.specs.Matching.{AreMatching}
use Rattle.sspi_completeness.specs.Negotiating.{protocol_of, AreNegotiating}
use Rattle.sspi_completeness.proofs.Accepting.{IsPeer, Takes}
use Rattle.sspi_completeness.proofs.Blobs.{blob_of, blob_length}
use Rattle.sspi_completeness.proofs.ClientTurns.{Walks}
use Rattle.sspi_completeness.proofs.Negotiation.{IsNegotiation, last_step}
use Rattle.sspi_completeness.proofs.NtlmOutcomes.{some_candidates}
use Rattle.sspi_completeness.proofs.NtlmSteps.{server_values}
use Rattle.sspi_completeness.proofs.Runs.{M, h, Ends, runs, made_of, identified, identified_so, unidentified, protection_of}
use Rattle.sspi_completeness.proofs.SpnegoBegins.{client_values, handle_of, taken, served, taken_is, first_is, hand_is, acquires_so}
use Rattle.sspi_completeness.proofs.SpnegoBegins.{acquires_none, never_unacquired, never_unserved}
use Rattle.sspi_completeness.proofs.SpnegoEnds.{C, c, holding, named_by, at_rest, as_holding, IsKeyed, maker, taker, Leads, KdcIs}
use Rattle.sspi_completeness.proofs.SpnegoEnds.{walks_by, takes_by}

bool_same : (b d : Bool) (Q : Type 0) → (IsTrue b ↔ Q) → (IsTrue d ↔ Q) → b ≡ d
bool_same true d Q one two = sym (two.1 (one.0 refl))
bool_same false true Q one two = one.1 (two.0 refl)
bool_same false false Q one two = refl

name_rests : (m : M) → h.names (at_rest m) ≡ h.names m
name_rests (hands.Ntlm m) = refl
name_rests (hands.Kerberos m) = refl

nameless_so : (m : M) (kind : ErrorKind) → h.refuses m ToName kind → absence (h.names m) ≡ Some kind
nameless_so (hands.Ntlm m) kind refuses = refuses
nameless_so (hands.Kerberos m) kind refuses = refuses

incomplete_so : (m : M) (kind : ErrorKind) → h.refuses m ToComplete kind → absence (protection_of m).key ≡ Some kind
incomplete_so (hands.Ntlm m) kind refuses = refuses
incomplete_so (hands.Kerberos m) kind refuses = refuses

key_rests : (m : M) → (protection_of (at_rest m)).key ≡ (protection_of m).key
key_rests (hands.Ntlm m) = refl
key_rests (hands.Kerberos m) = refl

present : {A : Type 0} (o : Option A) (x : A) (kind : ErrorKind) → o ≡ Some x → absence o ≡ Some kind → ⊥
present None x kind is absent = absurd (cc (is))
present (Some y) x kind is absent = cc (absent)

-- Two ends that match and negotiate, with the KDC of the client.
pub record Meeting (D P : Type 0) : Type 0 where
  pub told : D → Option (ℕ → NetworkRequest → Reply)
  pub calls : D → ℕ
  pub faults : D → ℕ
  pub laws : IsContext c
  pub proxy : ProxyMeaning P
  pub client : ClientView C
  pub server : ServerView C P
  pub kdc : D
  pub matching : AreMatching proxy (told kdc) (calls kdc) client server
  pub client_config : NegotiateConfig
  pub server_config : NegotiateConfig
  pub client_is : client.settings.mode ≡ client_mode.Negotiate client_config
  pub server_is : server.settings.mode ≡ server_mode.Negotiate server_config
  pub come : AreNegotiating (told kdc) (calls kdc) client_config server_config client.settings.target matching.identity

module _ {D P : Type 0} (meet : Meeting D P) where
  open meet use {told, calls, faults, laws, proxy as p, client as a, server as b, kdc as kdc_first, matching, client_config, server_config}
  open meet use {client_is, server_is, come}

  abbrev i : AuthIdentity
  i = matching.identity

  abbrev handle : Option CredentialsBuffers
  handle = handle_of i

  -- ---- how they begin

  abbrev pub client_origin : Origin
  client_origin = taken (served (protocol_of come.client_hand) (packages_in client_config)
      (url_for client_config.kdcs (domain_of i.username))) client_config come.client_hand

  abbrev pub client_new : M
  client_new = made_of client_origin

  abbrev pub server_new : M
  server_new = made_of come.server_hand

  abbrev pub client_start : Values
  client_start = client_values client_config i matching.identity_is (hand_of client_new) (packages_in client_config) states.Initial [] true

  abbrev pub server_start : Values
  server_start = server_values server_config matching.entries (hand_of server_new) states.Initial []

  abbrev asked : Option Credentials
  asked = Some (credentials.AuthIdentity i)

  client_acquired : (s2 : Negotiation M) (g : Option CredentialsBuffers) →
      Acquires ntlm_meaning kerberos_meaning (fresh Client client_config [] (made_of come.client_hand)) Outbound asked g s2 →
      (contexts.Negotiate s2 ≡ holding client_start client_new) × (g ≡ handle)
  client_acquired s2 g it =
      let there : it.mech ≡ client_new =
      taken_is _ client_config come.client_hand it.mech
      (subst (λ (q : Protocol). TakenBy h (served q (packages_in client_config) (url_for client_config.kdcs (domain_of i.username)))
      client_config.kdcs client_config.client_computer_name (made_of come.client_hand) it.mech) (hand_is come.client_hand) it.taken) in
      let so = acquires_so it.mech s2.mech i g it.acquired in
      (ap contexts.Negotiate it.kept ∙ ap (holding client_start) (so.1 ∙ there), so.0)

  client_made : (cr : Credentials) (g : Option CredentialsBuffers) (m0 m : C) → cr ≡ credentials.AuthIdentity i →
      c.made (ForClient (client_mode.Negotiate client_config)) m0 → c.acquires m0 Outbound (Some cr) g m →
      (m ≡ holding client_start client_new) × (g ≡ handle)
  client_made cr g (contexts.Ntlm x) m is made acquires = absurd made
  client_made cr g (contexts.Kerberos x) m is made acquires = absurd made
  client_made cr g (contexts.Negotiate s) (contexts.Ntlm x) is made acquires = absurd acquires
  client_made cr g (contexts.Negotiate s) (contexts.Kerberos x) is made acquires = absurd acquires
  client_made cr g (contexts.Negotiate s) (contexts.Negotiate s2) is made acquires =
      let begun = made.1.1 ∙ ap (fresh Client client_config []) (first_is come.client_hand _ s.mech come.client_first made.1.0) in
      client_acquired s2 g (subst (λ (t : Negotiation M). Acquires ntlm_meaning kerberos_meaning t Outbound asked g s2) begun
      (subst (λ (x : Credentials). Acquires ntlm_meaning kerberos_meaning s Outbound (Some x) g s2) is acquires))

  client_begins : (old : ClientView C) (g : Option CredentialsBuffers) (m : C) → old.settings ≡ a.settings → old.context ≡ None →
      Begun c old.context old.handle (ForClient old.settings.mode) Outbound (Some old.settings.credentials) g m →
      (m ≡ holding client_start client_new) × (g ≡ handle)
  client_begins old g m same none (goes_on is had) = absurd (cc (is, none))
  client_begins old g m same none (is_new m0 is made acquires) =
      client_made old.settings.credentials g m0 m (ap (λ (s : ClientSettings). s.credentials) same ∙ matching.credentials_are)
      (subst (λ (mode : ClientMode). c.made (ForClient mode) m0) (ap (λ (s : ClientSettings). s.mode) same ∙ client_is) made) acquires

  went_on : (setting : ContextSetting) (context : Option C) (asked_for : Option Credentials) (had g : Option CredentialsBuffers) (m x : C)
      (purpose : CredentialUse) → context ≡ Some x → Begun c context had setting purpose asked_for g m → (m ≡ x) × (g ≡ had)
  went_on setting context asked_for had g m x purpose there (goes_on is same) =
      let e : Some m ≡ Some x = sym is ∙ there in let here : m ≡ x = cc in (here, same)
  went_on setting context asked_for had g m x purpose there (is_new m0 is made acquires) = absurd (cc (is, there))

  never_made : (origin : Origin) (o : Result Origin ErrorKind) (kind : ErrorKind) → o ≡ Ok origin → IsUnmade o kind → ⊥
  never_made origin o kind is refused = subst (λ (x : Result Origin ErrorKind). IsUnmade x kind) is refused

  client_never : (cr : Credentials) (kind : ErrorKind) → cr ≡ credentials.AuthIdentity i →
      BeginCause c (ForClient (client_mode.Negotiate client_config)) Outbound (Some cr) kind → ⊥
  client_never cr kind is (unmade refused) = never_made come.client_hand _ kind come.client_first refused
  client_never cr kind is (unacquired (contexts.Ntlm x) made refuses) = made
  client_never cr kind is (unacquired (contexts.Kerberos x) made refuses) = made
  client_never cr kind is (unacquired (contexts.Negotiate s) made refuses) =
      let refused = subst (λ (x : Credentials). c.refuses (contexts.Negotiate s) (ToAcquire Outbound (Some x)) kind) is refuses in
      never_unacquired refused.0 i kind refused.2

  server_acquired : (s2 : Negotiation M) (g : Option CredentialsBuffers) →
      Acquires ntlm_meaning kerberos_meaning (fresh Server server_config matching.entries server_new) Inbound None g s2 →
      (contexts.Negotiate s2 ≡ holding server_start server_new) × (g ≡ None)
  server_acquired s2 g it =
      let so = acquires_none it.mech s2.mech g it.acquired in
      (ap contexts.Negotiate it.kept ∙ ap (holding server_start) (so.1 ∙ it.taken), so.0)

  server_made : (tells : Option (List AuthIdentity)) (g : Option CredentialsBuffers) (m0 m : C) → tells ≡ Some matching.entries →
      c.made (ForServer (server_mode.Negotiate server_config) tells) m0 → c.acquires m0 Inbound None g m →
      (m ≡ holding server_start server_new) × (g ≡ None)
  server_made tells g (contexts.Ntlm x) m is made acquires = absurd made
  server_made tells g (contexts.Kerberos x) m is made acquires = absurd made
  server_made tells g (contexts.Negotiate s) (contexts.Ntlm x) is made acquires = absurd acquires
  server_made tells g (contexts.Negotiate s) (contexts.Kerberos x) is made acquires = absurd acquires
  server_made tells g (contexts.Negotiate s) (contexts.Negotiate s2) is made acquires =
      let known : s.known ≡ matching.entries = subst (λ (x : Option (List AuthIdentity)). IsTold x s.known) is made.0 in
      let begun = made.1.1 ∙ ap (λ (x : List AuthIdentity). fresh Server server_config x s.mech) known
      ∙ ap (fresh Server server_config matching.entries) (first_is come.server_hand _ s.mech come.server_first made.1.0) in
      server_acquired s2 g (subst (λ (t : Negotiation M). Acquires ntlm_meaning kerberos_meaning t Inbound None g s2) begun acquires)

  server_begins : (old : ServerView C P) (g : Option CredentialsBuffers) (m : C) → old.settings ≡ b.settings →
      p.told old.proxy ≡ p.told b.proxy →
      old.context ≡ None → Begun c old.context old.handle (server_setting p old) Inbound None g m →
      (m ≡ holding server_start server_new) × (g ≡ None)
  server_begins old g m same tells none (goes_on is had) = absurd (cc (is, none))
  server_begins old g m same tells none (is_new m0 is made acquires) =
      server_made (p.told old.proxy).entries g m0 m (ap (λ (t : ProxyTells). t.entries) tells ∙ matching.tells)
      (subst (λ (mode : ServerMode). c.made (ForServer mode (p.told old.proxy).entries) m0) server_is
      (subst (λ (s : ServerSettings). c.made (ForServer s.mode (p.told old.proxy).entries) m0) same made)) acquires

  server_never : (mode : ServerMode) (before now : P) (kind : ErrorKind) → mode ≡ server_mode.Negotiate server_config →
      p.faults now ≡ p.faults before → p.faults before < 2 ^ 64 - 1 → MakeCause c p mode before now kind → ⊥
  server_never mode before now kind is still calm (unlisted refused) =
      let more = subst (λ (x : ServerMode). ListRefused x (p.faults before) (p.faults now) kind) is refused in omega
      (arith, more.0, still, calm)
  server_never mode before now kind is still calm (unbegun cause) = at (subst
      (λ (x : ServerMode). BeginCause c (ForServer x (p.told before).entries) Inbound None kind) is cause)
    where
      at : BeginCause c (ForServer (server_mode.Negotiate server_config) (p.told before).entries) Inbound None kind → ⊥
      at (unmade refused) = never_made come.server_hand _ kind come.server_first refused
      at (unacquired (contexts.Ntlm x) made refuses) = made
      at (unacquired (contexts.Kerberos x) made refuses) = made
      at (unacquired (contexts.Negotiate s) made refuses) = never_unserved refuses.0 kind refuses.2

  -- ---- the course of their steps

  abbrev given : Option (List ℕ) → StepArgs
  given token = client_args handle a.settings.target token

  -- The steps of both ends by their numbers, with the values and the mechanism that each leaves, and the number of the KDC's next call:
  -- j + 1 of the client that ask for more and one that ends, `early` where the server's end before that.
  pub record IsCourse (j : ℕ) (early : Bool) : Type 0 where
    pub client_step : ℕ → Step
    pub server_step : ℕ → Step
    pub client_value : ℕ → Values
    pub server_value : ℕ → Values
    pub client_object : ℕ → M
    pub server_object : ℕ → M
    pub call : ℕ → ℕ
    pub key : List ℕ
    pub leads_first : Leads (told kdc_first) (calls kdc_first) (runs (spnego_client come.ip client_start (given None)) client_new)
        (client_value 0) (client_step 0) (client_object 0) (call 0)
    pub leads : (n : ℕ) → n ≤ j → Leads (told kdc_first) (call n)
        (runs (spnego_client come.ip (named_by (client_value n) (client_object n)) (given (Some (server_step n).output))) (client_object n))
        (client_value (suc n)) (client_step (suc n)) (client_object (suc n)) (call (suc n))
    pub accepts_first : runs (spnego_server server_start (server_args None (Some (client_step 0).output))) server_new ≡
        Ends (server_value 0) (server_step 0) (server_object 0)
    pub accepts : (n : ℕ) → suc n ≤ last_step early j →
        runs (spnego_server (named_by (server_value n) (server_object n)) (server_args None (Some (client_step (suc n)).output)))
        (server_object n) ≡ Ends (server_value (suc n)) (server_step (suc n)) (server_object (suc n))
    pub client_rests : (n : ℕ) → at_rest (client_object n) ≡ client_object n
    pub server_rests : (n : ℕ) → at_rest (server_object n) ≡ server_object n
    pub client_goes : (n : ℕ) → n ≤ j → (client_step n).status ≡ statuses.ContinueNeeded
    pub client_ends : (client_step (suc j)).status ≡ statuses.Ok
    pub server_goes : (n : ℕ) → n < last_step early j → (server_step n).status ≡ statuses.ContinueNeeded
    pub server_ends : IsOver (Some (server_step (last_step early j)).status)
    pub server_speaks : early ≡ true → (server_step j).output ≢ []
    pub client_short : (n : ℕ) → n ≤ suc j → length (client_step n).output ≤ 65536
    pub server_short : (n : ℕ) → n ≤ j → length (server_step n).output ≤ 65536
    pub client_keyed : IsKeyed (client_object (suc j)) key FromClient FromServer
    pub server_keyed : IsKeyed (server_object (last_step early j)) key FromServer FromClient
    -- the server knows its peer: it has its name, and is told its identities again without effect
    pub named : h.names (server_object (last_step early j)) ≡ Some i.username
    pub knows : (y : M) → at_rest y ≡ server_object (last_step early j) →
        identified y (map credentials.AuthIdentity (candidates_of matching.entries i.username)) ≡ Ok y

  module _ (j : ℕ) (early : Bool) (it : IsCourse j early) where
    abbrev last : ℕ
    last = last_step early j

    abbrev peer_context : C
    peer_context = holding (it.server_value last) (it.server_object last)

    walks_first : (old : ClientView C) (kdc : D) → old.settings ≡ a.settings → old.context ≡ None →
        KdcIs told calls faults kdc_first (calls kdc_first) kdc →
        Walks c laws (kdc_calls told calls faults) old kdc None (it.client_step 0) (holding (it.client_value 0) (it.client_object 0)) handle
        (KdcIs told calls faults kdc_first (it.call 0))
    walks_first old kdc same none at =
        let target = ap (λ (s : ClientSettings). s.target) same in
        walks_by told calls faults laws old kdc_first kdc None client_start (it.client_value 0) client_new (it.client_object 0)
        (it.client_step 0) handle (calls kdc_first) (it.call 0) at (it.client_rests 0) (λ g m begun. client_begins old g m same none begun)
        _ it.leads_first
        (λ ip is. ap (λ (x : Bool). runs (spnego_client x client_start (client_args handle old.settings.target None)) client_new)
        (bool_same ip come.ip _ (subst (λ (t : List ℕ). IsTrue ip ↔ IsNamedByIp (Some t)) target is) come.ip_is)
        ∙ ap (λ (t : List ℕ). runs (spnego_client come.ip client_start (client_args handle t None)) client_new) target)

    walks : (n : ℕ) (old : ClientView C) (kdc : D) → n ≤ j → old.settings ≡ a.settings →
        old.context ≡ Some (holding (it.client_value n) (it.client_object n)) → old.handle ≡ handle →
        KdcIs told calls faults kdc_first (it.call n) kdc →
        Walks c laws (kdc_calls told calls faults) old kdc (Some (it.server_step n).output) (it.client_step (suc n))
        (holding (it.client_value (suc n)) (it.client_object (suc n))) handle (KdcIs told calls faults kdc_first (it.call (suc n)))
    walks n old kdc less same there had at =
        let target = ap (λ (s : ClientSettings). s.target) same in
        let v = named_by (it.client_value n) (it.client_object n) in
        walks_by told calls faults laws old kdc_first kdc (Some (it.server_step n).output) (it.client_value n) (it.client_value (suc n))
        (it.client_object n) (it.client_object (suc n)) (it.client_step (suc n)) handle (it.call n) (it.call (suc n)) at
        (it.client_rests (suc n))
        (λ g m begun. let w = went_on _ _ _ _ g m (holding (it.client_value n) (it.client_object n)) Outbound there begun in
        (w.0, w.1 ∙ had))
        _ (it.leads n less)
        (λ ip is. ap (λ (x : Bool). runs (spnego_client x v (client_args handle old.settings.target (Some (it.server_step n).output)))
        (it.client_object n))
        (bool_same ip come.ip _ (subst (λ (t : List ℕ). IsTrue ip ↔ IsNamedByIp (Some t)) target is) come.ip_is)
        ∙ ap (λ (t : List ℕ). runs (spnego_client come.ip v (client_args handle t (Some (it.server_step n).output))) (it.client_object n))
        target)

    takes_first : (old : ServerView C P) → old.settings ≡ b.settings → p.told old.proxy ≡ p.told b.proxy → old.context ≡ None →
        Takes c laws p old (Some (it.client_step 0).output) (it.server_step 0) (holding (it.server_value 0) (it.server_object 0)) None
    takes_first old same tells none =
        takes_by laws p old (Some (it.client_step 0).output) server_start (it.server_value 0) server_new (it.server_object 0)
        (it.server_step 0) (it.server_rests 0) (λ g m begun. server_begins old g m same tells none begun) it.accepts_first

    takes : (n : ℕ) (old : ServerView C P) → suc n ≤ last → old.settings ≡ b.settings →
        old.context ≡ Some (holding (it.server_value n) (it.server_object n)) → old.handle ≡ None →
        Takes c laws p old (Some (it.client_step (suc n)).output) (it.server_step (suc n))
        (holding (it.server_value (suc n)) (it.server_object (suc n))) None
    takes n old less same there had =
        takes_by laws p old (Some (it.client_step (suc n)).output) (it.server_value n) (it.server_value (suc n)) (it.server_object n)
        (it.server_object (suc n)) (it.server_step (suc n)) (it.server_rests (suc n))
        (λ g m begun. let w = went_on _ _ _ _ g m (holding (it.server_value n) (it.server_object n)) Inbound there begun in
        (w.0, w.1 ∙ had))
        (it.accepts n less)

    -- ---- the peer, whom the server knows already

    abbrev tells : ProxyTells
    tells = p.told b.proxy

    named_so : (y : M) → at_rest y ≡ it.server_object last → h.names y ≡ Some i.username
    named_so y rest = sym (name_rests y) ∙ ap h.names rest ∙ it.named

    found_so : (name : Name) (identities : List AuthIdentity) → Some name ≡ Some i.username → AreFound tells name identities →
        identities ≡ candidates_of matching.entries i.username
    found_so name identities same found =
        let is : name ≡ i.username = cc in
        subst (λ (x : Option (List AuthIdentity)). AreCandidates x name identities) matching.tells found.candidates
        ∙ ap (candidates_of matching.entries) is

    knows_so : (y : M) (name : Name) (identities : List AuthIdentity) → at_rest y ≡ it.server_object last → h.names y ≡ Some name →
        AreFound tells name identities → identified y (map credentials.AuthIdentity identities) ≡ Ok y
    knows_so y name identities rest named found =
        ap (λ (l : List AuthIdentity). identified y (map credentials.AuthIdentity l))
        (found_so name identities (sym named ∙ named_so y rest) found) ∙ it.knows y rest

    named_as : (y : M) (m2 : C) → at_rest y ≡ it.server_object last → IsIdentified c tells (holding (it.server_value last) y) m2 →
        cleared c m2 ≡ peer_context
    named_as y (contexts.Ntlm z) rest (is_identified name identities named found some sets) = absurd sets
    named_as y (contexts.Kerberos z) rest (is_identified name identities named found some sets) = absurd sets
    named_as y (contexts.Negotiate s) rest (is_identified name identities named found some sets) =
        let both : Ok s.mech ≡ Ok y =
        sym (identified_so y s.mech (map credentials.AuthIdentity identities) sets.0) ∙ knows_so y name identities rest named found in
        let same : s.mech ≡ y = cc in
        ap (λ (t : Negotiation M). cleared c (contexts.Negotiate t)) sets.1
        ∙ ap (λ (o : M). cleared c (holding (it.server_value last) o)) same ∙ ap (holding (it.server_value last)) rest

    identify_never : (y : M) (before now : ℕ) (kind : ErrorKind) → at_rest y ≡ it.server_object last → now ≡ before →
        before < 2 ^ 64 - 1 → IdentifyCause c (holding (it.server_value last) y) tells before now kind → ⊥
    identify_never y before now kind rest still few (nameless refuses) =
        present (h.names y) i.username kind (named_so y rest) (nameless_so y kind refuses)
    identify_never y before now kind rest still few (looked name named (failed more is)) = omega (arith, more, still, few)
    identify_never y before now kind rest still few (looked name named (nobody none is)) =
        let some = some_candidates matching.entries i matching.entry in
        let never : [] ≡ matching.entry.entry ∷ some.0 = found_so name [] (sym named ∙ named_so y rest) none ∙ some.1 in cc
    identify_never y before now kind rest still few (unset name identities named found some refuses) =
        let never : None ≡ Some kind =
        ap result_err (sym (knows_so y name identities rest named found)) ∙ unidentified y (map credentials.AuthIdentity identities)
        kind refuses
        in cc

    peer : IsPeer c laws tells peer_context peer_context
    peer = record {
      identified = λ m m2 same names.
          let at = as_holding m (it.server_value last) (it.server_object last) same in
          named_as at.0 m2 at.2 (subst (λ (x : C). IsIdentified c tells x m2) at.1 names);
      never = λ m before now kind same still few cause.
          let at = as_holding m (it.server_value last) (it.server_object last) same in
          identify_never at.0 before now kind at.2 still few (subst (λ (x : C). IdentifyCause c x tells before now kind) at.1 cause);
      completes = λ m kind same refuses.
          let at = as_holding m (it.server_value last) (it.server_object last) same in
          present (protection_of at.0).key it.key kind
          (sym (key_rests at.0) ∙ ap (λ (x : M). (protection_of x).key) at.2 ∙ it.server_keyed.keyed)
          (incomplete_so at.0 kind (subst (λ (x : C). c.refuses x ToComplete kind) at.1 refuses));
    }

    -- ---- all of it

    abbrev client_context : ℕ → C
    client_context zero = holding client_start client_new
    client_context (suc n) = holding (it.client_value n) (it.client_object n)

    abbrev server_context : ℕ → C
    server_context zero = holding server_start server_new
    server_context (suc n) = holding (it.server_value n) (it.server_object n)

    abbrev next_call : ℕ → ℕ
    next_call zero = calls kdc_first
    next_call (suc n) = it.call n

    pub negotiation : IsNegotiation c laws (kdc_calls told calls faults) p a b kdc_first j early
    negotiation = record {
      client_step = it.client_step;
      server_step = it.server_step;
      client_context = client_context;
      server_context = server_context;
      client_handle = handle;
      server_handle = None;
      KdcAt = λ n. KdcIs told calls faults kdc_first (next_call n);
      peer_context = peer_context;
      ups = blob_of it.key FromClient;
      downs = blob_of it.key FromServer;
      client_begins = λ kind cause. client_never a.settings.credentials kind matching.credentials_are
          (subst (λ (mode : ClientMode). BeginCause c (ForClient mode) Outbound (Some a.settings.credentials) kind) client_is cause);
      server_begins = λ before now kind still calm. server_never b.settings.mode before now kind server_is still calm;
      kdc_start = record { same = refl; called = refl };
      walks_first = walks_first;
      walks = walks;
      takes_first = takes_first;
      takes = takes;
      client_goes = it.client_goes;
      client_ends = it.client_ends;
      server_goes = it.server_goes;
      server_ends = it.server_ends;
      server_speaks = it.server_speaks;
      peer = peer;
      client_maker = maker (it.client_value (suc j)) (it.client_object (suc j)) it.key FromClient FromServer it.client_keyed;
      client_taker = taker (it.client_value (suc j)) (it.client_object (suc j)) it.key FromClient FromServer it.client_keyed;
      server_maker = maker (it.server_value last) (it.server_object last) it.key FromServer FromClient it.server_keyed;
      server_taker = taker (it.server_value last) (it.server_object last) it.key FromServer FromClient it.server_keyed;
      client_short = it.client_short;
      server_short = it.server_short;
      ups_short = λ n text. let e = blob_length it.key FromClient n text in omega (arith, e);
      downs_short = λ n text. let e = blob_length it.key FromServer n text in omega (arith, e);
    }
