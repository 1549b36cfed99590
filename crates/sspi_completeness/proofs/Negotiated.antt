-- The rounds of an undisturbed exchange whose authentication is evaluated: what each end makes of each of its turns.
use Rattle.std.proofs.Common.{◌≡◌, ◌∷◌, ◌-◌, ◌≢◌, ℕ, zero, suc, ◌+◌, ◌≤◌, ◌<◌, ◌^◌, Bool, true, false, List, [], Option, None, Some}
use Rattle.std.proofs.Common.{refl, ap, sym, ◌∙◌, subst, arith}
use Rattle.sspi_names.specs.declared.identity.AuthIdentity.{AuthIdentity}
use Rattle.sspi_tsreq.specs.declared.request.TsRequest.{TsRequest}
use Rattle.sspi_tsreq.specs.Spelling.{carried, carries_code}
use Rattle.sspi_tsreq.specs.Grammar.{first_request}
use Rattle.sspi_mech.specs.declared.step.Step.{Step}
use Rattle.sspi_mech.specs.Context.{IsContext}
use Rattle.sspi_mech.specs.Meaning.{Meaning}
use Rattle.sspi_credssp.specs.declared.public_key.EndpointType.{EndpointType}
use Rattle.sspi_credssp.specs.declared.public_key.EndpointType.TheVariants as endpoint
use Rattle.sspi_credssp.specs.declared.state.CredSspState.TheVariants.{NegoToken, PubKeyInfo, AuthInfo}
use Rattle.sspi_credssp.specs.Ends.{ClientView, IsFreshClient, ServerView, IsFreshServer}
use Rattle.sspi_credssp.specs.Context.{ContextSetting}
use Rattle.sspi_credssp.specs.Exchange.{prescribed}
use Rattle.sspi_credssp.specs.Requests.{nonce_of, unless_empty}
use Rattle.sspi_credssp.specs.Proxy.{ProxyMeaning, ProxyTells}
use Rattle.sspi_credssp.specs.ServerTurn.{HoldsIdentity}
use Rattle.sspi_credssp.specs.Turn.{IsOver}
use Rattle.sspi_credssp.specs.declared.turn.Outcome.{Outcome}
use Rattle.sspi_delegate.specs.Chain.{KdcCalls}
use Rattle.sspi_delegate.specs.History.{ClientMakes, ServerMakes}
use Rattle.sspi_completeness.proofs.Accepting.{IsPeer, Takes}
use Rattle.sspi_completeness.proofs.ClientDelivery as client_last
use Rattle.sspi_completeness.proofs.ClientTurns as client
use Rattle.sspi_completeness.proofs.Ends.{Comes, Ends, Holds, held_is, ClientIs, ServerIs, fresh_client, fresh_server, client_emptied}
use Rattle.sspi_completeness.proofs.Ends.{server_emptied}
use Rattle.sspi_completeness.proofs.Fits.{IsMessage, same_proof, carried_nonce, nonce_there}
use Rattle.sspi_completeness.proofs.Lengths.{no_code}
use Rattle.sspi_completeness.proofs.Negotiation.{AreAlike, IsNegotiation, last_step, given_token, up_token, down_token, proof_message}
use Rattle.sspi_completeness.proofs.Negotiation.{sent_nonce, answer_message, last_message, given_only, taken_only, up_fits, down_fits}
use Rattle.sspi_completeness.proofs.Negotiation.{proof_fits, answer_code, answer_fits, last_fits}
use Rattle.sspi_completeness.proofs.Points.{IsKnown}
use Rattle.sspi_completeness.proofs.Rounds.{Round, Token, Proof, Last, comes_map, is_no_code}
use Rattle.sspi_completeness.proofs.ServerDelivery as server_last
use Rattle.sspi_completeness.proofs.ServerProofs as proofs
use Rattle.sspi_completeness.proofs.ServerTurns as server

module _ {C D P : Type 0} (c : Meaning ContextSetting C) (laws : IsContext c) (k : KdcCalls D) (p : ProxyMeaning P)
    (a : ClientView C) (b : ServerView C P) (kdc_first : D) (j : ℕ) (early : Bool) (it : IsNegotiation c laws k p a b kdc_first j early)
    (text : List ℕ) (identity : AuthIdentity) (alike : AreAlike a b text identity) (client_new : IsFreshClient a)
    (server_new : IsFreshServer b) where
  abbrev CView : Type 0
  CView = ClientView C

  abbrev SView : Type 0
  SView = ServerView C P

  abbrev given_of : ℕ → TsRequest
  given_of n = given_token c laws k p a b kdc_first j early it text identity alike n

  abbrev up_of : ℕ → TsRequest
  up_of n = up_token c laws k p a b kdc_first j early it text identity alike n

  abbrev down_of : ℕ → TsRequest
  down_of n = down_token c laws k p a b kdc_first j early it text identity alike n

  abbrev proof_of : TsRequest
  proof_of = proof_message c laws k p a b kdc_first j early it text identity alike

  abbrev nonce_sent : Option (List ℕ)
  nonce_sent = sent_nonce c laws k p a b kdc_first j early it text identity alike

  abbrev answer_of : TsRequest
  answer_of = answer_message c laws k p a b kdc_first j early it text identity alike

  abbrev last_of : TsRequest
  last_of = last_message c laws k p a b kdc_first j early it text identity alike

  -- ---- the state of the client

  -- the version that it is given next, and whether that is its first turn
  abbrev peer_version : ℕ → ℕ
  peer_version zero = first_request.version
  peer_version (suc n) = b.settings.version

  abbrev is_first : ℕ → Bool
  is_first zero = true
  is_first (suc n) = false

  abbrev ClientHas : ℕ → CView → Type 0
  ClientHas zero x = x.context ≡ None
  ClientHas (suc n) x = (x.context ≡ Some (it.client_context (suc n))) × (x.handle ≡ it.client_handle)

  record ClientNego (n : ℕ) (x : CView) (kdc : D) : Type 0 where
    pub is : ClientIs c a x (peer_version n) (is_first n) NegoToken 0 0
    pub has : ClientHas n x
    pub kdc_at : it.KdcAt n kdc

  record ClientLast (x : CView) : Type 0 where
    pub is : ClientIs c a x b.settings.version false AuthInfo 1 0
    pub holds : Holds c x.context (it.client_context (suc (suc j)))

  abbrev ClientAt : Round j → CView → D → Type 0
  ClientAt (Token n rest e) x kdc = ClientNego n x kdc
  ClientAt Proof x kdc = ClientNego (suc j) x kdc
  ClientAt Last x kdc = ClientLast x

  -- ---- and the server

  abbrev ServerHas : ℕ → SView → Type 0
  ServerHas zero y = y.context ≡ None
  ServerHas (suc n) y = (y.context ≡ Some (it.server_context (suc n))) × (y.handle ≡ it.server_handle)

  record ServerNego (n : ℕ) (y : SView) : Type 0 where
    pub is : ServerIs c b y a.settings.version NegoToken 0 0
    pub has : ServerHas n y

  record ServerKeyed (y : SView) : Type 0 where
    pub is : ServerIs c b y a.settings.version PubKeyInfo 0 0
    pub holds : Holds c y.context it.peer_context

  record ServerLast (y : SView) : Type 0 where
    pub is : ServerIs c b y a.settings.version AuthInfo 1 1
    pub holds : Holds c y.context it.peer_context

  abbrev BeforeProof : Bool → SView → Type 0
  BeforeProof true y = ServerKeyed y
  BeforeProof false y = ServerNego (suc j) y

  abbrev ServerAt : Round j → SView → Type 0
  ServerAt (Token n rest e) y = ServerNego n y
  ServerAt Proof y = BeforeProof early y
  ServerAt Last y = ServerLast y

  -- ---- the rounds

  one_less : (n rest : ℕ) → n + suc rest ≡ j → suc n + rest ≡ j
  one_less n rest e = omega (arith, e)

  within : (n rest : ℕ) → n + rest ≡ j → n ≤ j
  within n rest e = omega (arith, e)

  is_j : (n : ℕ) → n + zero ≡ j → n ≡ j
  is_j n e = omega (arith, e)

  abbrev next : Round j → Round j
  next (Token n zero e) = Proof
  next (Token n (suc rest) e) = Token (suc n) rest (one_less n rest e)
  next Proof = Last
  next Last = Last

  abbrev is_last : Round j → Bool
  is_last (Token n rest e) = false
  is_last Proof = false
  is_last Last = true

  abbrev rank : Round j → ℕ
  rank (Token n rest e) = n
  rank Proof = suc j
  rank Last = suc (suc j)

  abbrev given : Round j → TsRequest
  given (Token n rest e) = given_of n
  given Proof = carried (down_of j)
  given Last = carried answer_of

  abbrev up : Round j → TsRequest
  up (Token n rest e) = up_of n
  up Proof = proof_of
  up Last = last_of

  abbrev down : Round j → TsRequest
  down (Token n rest e) = down_of n
  down Proof = answer_of
  down Last = answer_of

  next_rank : (i : Round j) → is_last i ≡ false → rank (next i) ≡ suc (rank i)
  next_rank (Token n zero e) is = ap suc (sym (is_j n e))
  next_rank (Token n (suc rest) e) is = refl
  next_rank Proof is = refl
  next_rank Last is = absurd cc

  last_rank : (i : Round j) → is_last i ≡ true → rank i ≡ suc (suc j)
  last_rank (Token n rest e) is = absurd cc
  last_rank Proof is = absurd cc
  last_rank Last is = refl

  rank_within : (i : Round j) → rank i ≤ suc (suc j)
  rank_within (Token n rest e) = omega (arith, e)
  rank_within Proof = omega arith
  rank_within Last = omega arith

  given_next : (i : Round j) → is_last i ≡ false → given (next i) ≡ carried (down i)
  given_next (Token n zero e) is = ap (λ (m : ℕ). carried (down_of m)) (sym (is_j n e))
  given_next (Token n (suc rest) e) is = refl
  given_next Proof is = refl
  given_next Last is = absurd cc

  each_up : (i : Round j) → IsMessage (up i)
  each_up (Token n rest e) = up_fits c laws k p a b kdc_first j early it text identity alike n (within n rest e)
  each_up Proof = proof_fits c laws k p a b kdc_first j early it text identity alike
  each_up Last = last_fits c laws k p a b kdc_first j early it text identity alike

  each_down : (i : Round j) → is_last i ≡ false → IsMessage (down i)
  each_down (Token n rest e) is = down_fits c laws k p a b kdc_first j early it text identity alike n (within n rest e)
  each_down Proof is = answer_fits c laws k p a b kdc_first j early it text identity alike
  each_down Last is = absurd cc

  -- ---- the client's turns

  walks_at : (n : ℕ) (x : CView) (kdc : D) (d : TsRequest) → n ≤ suc j → ClientNego n x kdc → d.nego_tokens ≡ (given_of n).nego_tokens →
      client.Walks c laws k x kdc d.nego_tokens (it.client_step n) (it.client_context (suc n)) it.client_handle (it.KdcAt (suc n))
  walks_at zero x kdc d less at token =
      subst (λ (t : Option (List ℕ)). client.Walks c laws k x kdc t (it.client_step 0) (it.client_context 1) it.client_handle
      (it.KdcAt 1)) (sym token)
      (it.walks_first x kdc at.is.same at.has at.kdc_at)
  walks_at (suc n) x kdc d less at token =
      subst (λ (t : Option (List ℕ)). client.Walks c laws k x kdc t (it.client_step (suc n))
      (it.client_context (suc (suc n))) it.client_handle (it.KdcAt (suc (suc n))))
      (sym token) (it.walks n x kdc (omega (arith, less)) at.is.same at.has.0 at.has.1 at.kdc_at)

  version_given : (n : ℕ) → (given_of n).version ≡ peer_version n
  version_given zero = refl
  version_given (suc n) = refl

  peer_speaks : (n : ℕ) → is_first n ≡ false → b.settings.version ≡ peer_version n
  peer_speaks zero first = absurd cc
  peer_speaks (suc n) first = refl

  client_given : (n : ℕ) (x : CView) (kdc : D) (d : TsRequest) → n ≤ suc j → ClientNego n x kdc → d ≡ given_of n →
      client.NegoGiven c laws k a x (peer_version n) (is_first n) kdc d (it.client_step n) (it.client_context (suc n)) it.client_handle
      (it.KdcAt (suc n))
  client_given n x kdc d less at is = record {
    is = at.is;
    walks = walks_at n x kdc d less at (ap (λ (r : TsRequest). r.nego_tokens) is);
    version = ap (λ (r : TsRequest). r.version) is ∙ version_given n;
    code = is_no_code d (ap (λ (r : TsRequest). r.error_code) is ∙
        (given_only c laws k p a b kdc_first j early it text identity alike n).code);
    begins = it.client_begins;
  }

  client_token : (n : ℕ) (x mid : CView) (kdc kdc2 : D) (d : TsRequest) (out : Outcome) → n ≤ j → ClientNego n x kdc → d ≡ given_of n →
      ClientMakes c k x kdc d out mid kdc2 → Comes out (λ r. (r ≡ up_of n) × ClientNego (suc n) (record mid { output = [] }) kdc2)
  client_token n x mid kdc kdc2 d out less at is makes =
      comes_map out _ _
      (λ r h. (
        h.0 ∙ ap (λ (q : TsRequest). record q { version = a.settings.version; nego_tokens = Some (it.client_step n).output }) is,
        record {
          is = client_emptied c a mid b.settings.version false NegoToken 0 0 h.1;
          has = (held_is c laws mid.context _ h.2 h.1.sealed_is h.1.unsealed_is, h.3);
          kdc_at = h.4;
        },
      ))
      (client.token_turn c laws k a x (peer_version n) (is_first n) kdc d (it.client_step n) (it.client_context (suc n)) it.client_handle
      (it.KdcAt (suc n))
      (client_given n x kdc d (omega (arith, less)) at is) b.settings.version out mid kdc2 (it.client_goes n less)
      (peer_speaks n) alike.client_takes makes)

  client_proof : (x mid : CView) (kdc kdc2 : D) (d : TsRequest) (out : Outcome) → ClientNego (suc j) x kdc → d ≡ carried (down_of j) →
      ClientMakes c k x kdc d out mid kdc2 → Comes out (λ r. (r ≡ proof_of) × ClientLast (record mid { output = [] }))
  client_proof x mid kdc kdc2 d out at is makes =
      comes_map out _ _
      (λ r h. (
        h.0 ∙ ap (λ (q : TsRequest). record q {
          version = a.settings.version;
          nego_tokens = unless_empty (it.client_step (suc j)).output;
          client_nonce = Some a.settings.nonce;
          pub_key_auth = Some (it.ups 0 (prescribed endpoint.Client b.settings.version a.settings.nonce a.settings.public_key));
        }) is,
        record {
          is = client_emptied c a mid b.settings.version false AuthInfo 1 0 h.1;
          holds = record { held = h.2.held; there = h.2.there; same = h.2.same };
        },
      ))
      (client.proof_turn c laws k a x b.settings.version false kdc d
      (it.client_step (suc j)) (it.client_context (suc (suc j))) it.client_handle
      (it.KdcAt (suc (suc j)))
      (client_given (suc j) x kdc d (omega arith) at is) it.ups it.client_maker refl out mid kdc2 it.client_ends makes)

  -- both ends owe the same proofs
  same_text : (end : EndpointType) →
      prescribed end b.settings.version a.settings.nonce a.settings.public_key ≡ prescribed end a.settings.version
      (nonce_of nonce_sent) b.settings.public_key
  same_text end =
      sym (same_proof end a.settings.version b.settings.version (nonce_of nonce_sent) a.settings.nonce a.settings.public_key alike.versions
      (carried_nonce a.settings.version a.settings.nonce))
      ∙ ap (prescribed end a.settings.version (nonce_of nonce_sent)) (sym alike.key_same)

  client_delivery : (x mid : CView) (kdc kdc2 : D) (d : TsRequest) (out : Outcome) → ClientLast x → d ≡ carried answer_of →
      ClientMakes c k x kdc d out mid kdc2 → Comes out (λ r. r ≡ last_of)
  client_delivery x mid kdc kdc2 d out at is makes =
      comes_map out _ _
      (λ r h. h ∙ ap (λ (q : TsRequest). record q {
        version = a.settings.version;
        nego_tokens = None;
        pub_key_auth = None;
        auth_info = Some (it.ups 1 text);
      }) is)
      (client_last.last_turn c k a x b.settings.version d (it.client_context (suc (suc j))) it.ups it.downs text (record {
        is = at.is;
        holds = at.holds;
        maker = it.client_maker;
        taker = it.client_taker;
        version = ap (λ (r : TsRequest). r.version) is;
        code = is_no_code d (ap (λ (r : TsRequest). r.error_code) is
            ∙ no_code (carries_code b.settings.version) answer_of.error_code
            (answer_code c laws k p a b kdc_first j early it text identity alike));
        proof = ap (λ (r : TsRequest). r.pub_key_auth) is ∙ ap (λ (p : List ℕ). Some (it.downs 0 p)) (sym (same_text endpoint.Server));
        text_is = alike.text_is;
        begins = it.client_begins;
      }) kdc out mid kdc2 makes)

  client_goes : (i : Round j) (x mid : CView) (kdc kdc2 : D) (d : TsRequest) (out : Outcome) → ClientAt i x kdc → d ≡ given i →
      ClientMakes c k x kdc d out mid kdc2 → Comes out (λ r. (r ≡ up i) ×
      (is_last i ≡ false → ClientAt (next i) (record mid { output = [] }) kdc2))
  client_goes (Token n zero e) x mid kdc kdc2 d out at is makes =
      comes_map out _ _ (λ r h. (h.0, λ later. subst (λ (m : ℕ). ClientNego (suc m) (record mid { output = [] }) kdc2) (is_j n e) h.1))
      (client_token n x mid kdc kdc2 d out (within n zero e) at is makes)
  client_goes (Token n (suc rest) e) x mid kdc kdc2 d out at is makes =
      comes_map out _ _ (λ r h. (h.0, λ later. h.1)) (client_token n x mid kdc kdc2 d out (within n (suc rest) e) at is makes)
  client_goes Proof x mid kdc kdc2 d out at is makes = comes_map out _ _ (λ r h. (h.0, λ later. h.1))
      (client_proof x mid kdc kdc2 d out at is makes)
  client_goes Last x mid kdc kdc2 d out at is makes = comes_map out _ _ (λ r h. (h, λ later. absurd cc))
      (client_delivery x mid kdc kdc2 d out at is makes)

  -- ---- the server's turns

  takes_at : (n : ℕ) (y : SView) (d : TsRequest) → n ≤ last_step early j → ServerNego n y → p.told y.proxy ≡ p.told b.proxy →
      d.nego_tokens ≡ Some (it.client_step n).output →
      Takes c laws p y d.nego_tokens (it.server_step n) (it.server_context (suc n)) it.server_handle
  takes_at zero y d less at tells token =
      subst (λ (t : Option (List ℕ)). Takes c laws p y t (it.server_step 0) (it.server_context 1) it.server_handle) (sym token)
      (it.takes_first y at.is.same tells at.has)
  takes_at (suc n) y d less at tells token =
      subst (λ (t : Option (List ℕ)). Takes c laws p y t (it.server_step (suc n)) (it.server_context (suc (suc n))) it.server_handle)
      (sym token)
      (it.takes n y less at.is.same at.has.0 at.has.1)

  -- a token that may be left out if it is empty
  takes_some : (y : SView) (step : Step) (z : C) (handle : _) (token : List ℕ) → Takes c laws p y (Some token) step z handle →
      Takes c laws p y (unless_empty token) step z handle
  takes_some y step z handle [] takes = record { done = takes.done; never = takes.never }
  takes_some y step z handle (x ∷ token) takes = takes

  server_given : (n : ℕ) (y : SView) (d : TsRequest) → ServerNego n y → d.version ≡ a.settings.version →
      Takes c laws p y d.nego_tokens (it.server_step n) (it.server_context (suc n)) it.server_handle →
      server.NegoGiven c laws p b y a.settings.version d (it.server_step n) (it.server_context (suc n)) it.server_handle
  server_given n y d at version takes = record { is = at.is; takes = takes; version = version; begins = it.server_begins }

  server_token : (n : ℕ) (y mid : SView) (d : TsRequest) (out : Outcome) → n < last_step early j → ServerNego n y → d ≡ carried (up_of n) →
      p.told y.proxy ≡ p.told b.proxy → p.faults mid.proxy ≡ p.faults y.proxy → p.faults y.proxy < 2 ^ 64 - 1 →
      ServerMakes c p y d out mid → Comes out (λ r. (r ≡ down_of n) × ServerNego (suc n) (record mid { output = [] }))
  server_token n y mid d out less at is tells still calm makes =
      comes_map out _ _
      (λ r h. (
        h.0 ∙ ap (λ (q : TsRequest). record q { version = b.settings.version; nego_tokens = Some (it.server_step n).output }) is,
        record {
          is = server_emptied c b mid a.settings.version NegoToken 0 0 h.1;
          has = (held_is c laws mid.context _ h.2 h.1.sealed_is h.1.unsealed_is, h.3);
        },
      ))
      (server.token_turn c laws p b y a.settings.version d (it.server_step n) (it.server_context (suc n)) it.server_handle
      (server_given n y d at (ap (λ (r : TsRequest). r.version) is)
      (takes_at n y d (omega (arith, less)) at tells (ap (λ (r : TsRequest). r.nego_tokens) is)))
      out mid (it.server_goes n less) still calm makes)

  proof_given : (d : TsRequest) → d ≡ carried proof_of → proofs.ProofGiven c laws p b a.settings.version d it.peer_context it.downs it.ups
  proof_given d is =
      let nonce : d.client_nonce ≡ nonce_sent = ap (λ (r : TsRequest). r.client_nonce) is in
      record {
        maker = it.server_maker;
        taker = it.server_taker;
        proof = ap (λ (r : TsRequest). r.pub_key_auth) is
            ∙ ap (λ (p : List ℕ). Some (it.ups 0 p)) (same_text endpoint.Client ∙ ap
            (λ (n : Option (List ℕ)). prescribed endpoint.Client a.settings.version (nonce_of n) b.settings.public_key) (sym nonce));
        nonce = rw nonce (nonce_there a.settings.version a.settings.nonce);
      }

  abbrev answered : TsRequest → TsRequest
  answered d = record d {
    version = b.settings.version;
    nego_tokens = None;
    pub_key_auth = Some (it.downs 0 (prescribed endpoint.Server a.settings.version (nonce_of d.client_nonce) b.settings.public_key));
  }

  keyed_last : (mid : SView) → ServerIs c b mid a.settings.version AuthInfo 1 1 → Holds c mid.context it.peer_context →
      ServerLast (record mid { output = [] })
  keyed_last mid is holds = record {
    is = server_emptied c b mid a.settings.version AuthInfo 1 1 is;
    holds = record { held = holds.held; there = holds.there; same = holds.same };
  }

  -- what a server that has its peer's name makes of a proof
  answer_more : (mid : SView) (d r : TsRequest) → d ≡ carried proof_of →
      (r ≡ answered d) × ServerIs c b mid a.settings.version AuthInfo 1 1 ×
      Holds c mid.context it.peer_context →
      (r ≡ answer_of) × ServerLast (record mid { output = [] })
  answer_more mid d r is h = (h.0 ∙ ap answered is, keyed_last mid h.1 h.2)

  less_last : (b2 : Bool) (n : ℕ) → n < j → n < last_step b2 j
  less_last true n less = less
  less_last false n less = omega (arith, less)

  peer_at : (y : SView) (m : ℕ) → last_step early j ≡ m → p.told y.proxy ≡ p.told b.proxy →
      IsPeer c laws (p.told y.proxy) (it.server_context (suc m)) it.peer_context
  peer_at y m is tells =
      subst (λ (t : ProxyTells). IsPeer c laws t (it.server_context (suc m)) it.peer_context) (sym tells)
      (subst (λ (n : ℕ). IsPeer c laws (p.told b.proxy) (it.server_context (suc n)) it.peer_context) is it.peer)

  over_at : (m : ℕ) → last_step early j ≡ m → IsOver (Some (it.server_step m).status)
  over_at m is = subst (λ (n : ℕ). IsOver (Some (it.server_step n).status)) is it.server_ends

  -- the last token of the server, after which its authentication may be over
  last_token : (early2 : Bool) → early ≡ early2 → (n : ℕ) (y mid : SView) (d : TsRequest) (out : Outcome) → n ≡ j → ServerNego n y →
      d ≡ carried (up_of n) →
      p.told y.proxy ≡ p.told b.proxy → p.faults mid.proxy ≡ p.faults y.proxy → p.faults y.proxy < 2 ^ 64 - 1 →
      ServerMakes c p y d out mid →
      Comes out (λ r. (r ≡ down_of n) × BeforeProof early2 (record mid { output = [] }))
  last_token true when n y mid d out is_last at is tells still calm makes =
      let m : last_step early j ≡ n = ap (λ (x : Bool). last_step x j) when ∙ sym is_last in
      comes_map out _ _
      (λ r h. (
        h.0 ∙ ap (λ (q : TsRequest). record q { version = b.settings.version; nego_tokens = Some (it.server_step n).output }) is,
        record {
          is = server_emptied c b mid a.settings.version PubKeyInfo 0 0 h.1;
          holds = record { held = h.2.held; there = h.2.there; same = h.2.same };
        },
      ))
      (proofs.over_turn c laws p b y a.settings.version d (it.server_step n) (it.server_context (suc n)) it.peer_context it.server_handle
      (server_given n y d at (ap (λ (r : TsRequest). r.version) is)
      (takes_at n y d (omega (arith, m)) at tells (ap (λ (r : TsRequest). r.nego_tokens) is)))
      (peer_at y n m tells) (over_at n m)
      (ap (λ (r : TsRequest). r.pub_key_auth) is ∙ (taken_only c laws k p a b kdc_first j early it text identity alike n).proof)
      (subst (λ (x : ℕ). (it.server_step x).output ≢ []) (sym is_last) (it.server_speaks when)) out mid still calm makes)
  last_token false when n y mid d out is_last at is tells still calm makes =
      let m : last_step early j ≡ suc j = ap (λ (x : Bool). last_step x j) when in
      comes_map out _ _ (λ r h. (h.0, subst (λ (x : ℕ). ServerNego (suc x) (record mid { output = [] })) is_last h.1))
      (server_token n y mid d out (omega (arith, m, is_last)) at is tells still calm makes)

  answers_proof : (early2 : Bool) → early ≡ early2 → (y mid : SView) (d : TsRequest) (out : Outcome) → BeforeProof early2 y →
      d ≡ carried proof_of →
      p.told y.proxy ≡ p.told b.proxy → p.faults mid.proxy ≡ p.faults y.proxy → p.faults y.proxy < 2 ^ 64 - 1 →
      ServerMakes c p y d out mid →
      Comes out (λ r. (r ≡ answer_of) × ServerLast (record mid { output = [] }))
  answers_proof true when y mid d out at is tells still calm makes =
      comes_map out _ _ (λ r h. answer_more mid d r is h)
      (proofs.proof_turn c laws p b y a.settings.version d it.peer_context it.downs it.ups (proof_given d is) at.is at.holds
      (ap (λ (r : TsRequest). r.version) is)
      out mid makes)
  answers_proof false when y mid d out at is tells still calm makes =
      let m : last_step early j ≡ suc j = ap (λ (x : Bool). last_step x j) when in
      let token : d.nego_tokens ≡ unless_empty (it.client_step (suc j)).output = ap (λ (r : TsRequest). r.nego_tokens) is in
      let takes = subst (λ (t : Option (List ℕ)). Takes c laws p y t (it.server_step (suc j))
      (it.server_context (suc (suc j))) it.server_handle) (sym token)
      (takes_some y _ _ it.server_handle (it.client_step (suc j)).output (it.takes j y (omega (arith, m)) at.is.same at.has.0 at.has.1)) in
      comes_map out _ _ (λ r h. answer_more mid d r is h)
      (proofs.exchange_turn c laws p b y a.settings.version d (it.server_step (suc j))
      (it.server_context (suc (suc j))) it.peer_context it.server_handle
      (server_given (suc j) y d at (ap (λ (r : TsRequest). r.version) is) takes) (peer_at y (suc j) m tells)
      (over_at (suc j) m) it.downs it.ups (proof_given d is)
      out mid still calm makes)

  server_goes : (i : Round j) (y mid : SView) (d : TsRequest) (out : Outcome) → is_last i ≡ false → ServerAt i y → d ≡ carried (up i) →
      p.told y.proxy ≡ p.told b.proxy →
      p.faults mid.proxy ≡ p.faults y.proxy → p.faults y.proxy < 2 ^ 64 - 1 → ServerMakes c p y d out mid →
      Comes out (λ r. (r ≡ down i) × ServerAt (next i) (record mid { output = [] }))
  server_goes (Token n zero e) y mid d out goes at is tells still calm makes =
      last_token early refl n y mid d out (is_j n e) at is tells still calm makes
  server_goes (Token n (suc rest) e) y mid d out goes at is tells still calm makes =
      server_token n y mid d out (less_last early n (omega (arith, e))) at is tells still calm makes
  server_goes Proof y mid d out goes at is tells still calm makes = answers_proof early refl y mid d out at is tells still calm makes
  server_goes Last y mid d out goes at is tells still calm makes = absurd cc

  server_ends : (i : Round j) (y mid : SView) (d : TsRequest) (out : Outcome) → is_last i ≡ true → ServerAt i y → d ≡ carried (up i) →
      ServerMakes c p y d out mid → Ends out ((identity2 : AuthIdentity) → HoldsIdentity c mid.context d.auth_info identity2 →
      identity2 ≡ identity)
  server_ends (Token n rest e) y mid d out last at is makes = absurd cc
  server_ends Proof y mid d out last at is makes = absurd cc
  server_ends Last y mid d out last at is makes =
      server_last.last_turn c laws p b y a.settings.version d it.peer_context it.ups text identity (record {
        is = at.is;
        holds = at.holds;
        taker = it.server_taker;
        version = ap (λ (r : TsRequest). r.version) is;
        field = ap (λ (r : TsRequest). r.auth_info) is;
        delegates = alike.delegates;
      }) out mid makes

  none_before : 0 + j ≡ j
  none_before = omega arith

  -- an evaluated authentication determines all that the ends make of their turns
  pub known : IsKnown c k p a b kdc_first (suc (suc j)) identity
  known = record {
    Round = Round j;
    start = Token 0 j none_before;
    next = next;
    is_last = is_last;
    rank = rank;
    start_rank = refl;
    next_rank = next_rank;
    last_rank = last_rank;
    rank_within = rank_within;
    given = given;
    up = up;
    down = down;
    given_start = refl;
    given_next = given_next;
    up_fits = each_up;
    down_fits = each_down;
    ClientAt = ClientAt;
    ServerAt = ServerAt;
    client_start = record { is = fresh_client c a first_request.version client_new; has = client_new.context; kdc_at = it.kdc_start };
    server_start = record { is = fresh_server c b a.settings.version alike.server_takes server_new; has = server_new.context };
    client_goes = client_goes;
    server_goes = server_goes;
    server_ends = server_ends;
  }
