-- The state of an undisturbed exchange's ends in each round, from what they make of their turns.
use Rattle.std.proofs.Common.{◌≡◌, ◌-◌, ℕ, suc, ◌≤◌, ◌<◌, ◌^◌, Bool, true, false, List, [], ◌∷◌, Some, refl, ap, sym, ◌∙◌}
use Rattle.std.proofs.Common.{subst, arith, length}
use Rattle.sspi_names.specs.declared.identity.AuthIdentity.{AuthIdentity}
use Rattle.sspi_mech.specs.Meaning.{Meaning}
use Rattle.sspi_tsreq.specs.declared.request.TsRequest.{TsRequest}
use Rattle.sspi_tsreq.specs.Spelling.{carried}
use Rattle.sspi_tsreq.specs.Grammar.{first_request}
use Rattle.sspi_credssp.specs.Ends.{ClientView, ServerView}
use Rattle.sspi_credssp.specs.Context.{ContextSetting}
use Rattle.sspi_credssp.specs.Proxy.{ProxyMeaning}
use Rattle.sspi_credssp.specs.ServerTurn.{HoldsIdentity}
use Rattle.sspi_delegate.specs.declared.carried.Carried.{Carried}
use Rattle.sspi_credssp.specs.declared.turn.End.{End}
use Rattle.sspi_credssp.specs.declared.turn.End.TheVariants.{Client, Server}
use Rattle.sspi_credssp.specs.declared.turn.Outcome.{Outcome}
use Rattle.sspi_credssp.specs.declared.turn.Outcome.TheVariants.{Reply, Final, Finished, Refused}
use Rattle.sspi_credssp.specs.declared.turn.Turn.{Turn}
use Rattle.sspi_delegate.specs.Chain.{KdcCalls}
use Rattle.sspi_delegate.specs.Log.{one_of, turns_of}
use Rattle.sspi_delegate.specs.Turns.{onto_client, onto_server, client_turns, server_turns, other, next_end, GoesOn, AllGoOn, Alternates}
use Rattle.sspi_delegate.proofs.Histories.{server_asks}
use Rattle.sspi_delegate.specs.History.{ClientMakes, ClientMade, ClientHistory, ServerMakes, ServerMade, ServerHistory}
use Rattle.sspi_delegate.specs.Log.{IsDelivered, Logged}
use Rattle.sspi_completeness.specs.Matching.{AreWholePast}
use Rattle.sspi_completeness.proofs.Deliveries.{next_request}
use Rattle.sspi_completeness.proofs.Ends.{Comes, Ends}
use Rattle.sspi_completeness.proofs.Fits.{IsMessage}
use Rattle.sspi_credssp.specs.Turn.{message_of}

pub wrong_end : (e : End) → e ≡ Client → e ≡ Server → ⊥
wrong_end e one two = cc

-- the newest of the turns has a message that is delivered as this request
abbrev pub Sent : List Turn → TsRequest → Type 0
Sent [] d = d ≡ first_request
Sent (t ∷ past) d = (r : TsRequest) × (message_of t.outcome ≡ Some r) × IsMessage r × (d ≡ carried r)

delivered_is : (base : List Carried) (turns : List Turn) (log : List Carried) (d request : TsRequest) → Sent turns d →
    Logged base turns log → AreWholePast (length base) log →
    IsDelivered turns log request → request ≡ d
delivered_is base [] log d request sent entries whole delivered = delivered ∙ sym sent
delivered_is base (t ∷ past) log d request sent entries whole delivered =
    next_request base t past log sent.0 request sent.1 sent.2.value entries whole delivered ∙ sym sent.3

comes_going : (out : Outcome) (Q : TsRequest → Type 0) → GoesOn out → Comes out Q → (r : TsRequest) × (message_of out ≡ Some r) × Q r
comes_going (Reply r) Q going comes = (r, refl, comes)
comes_going (Final r) Q going comes = (r, refl, comes)
comes_going Finished Q going comes = absurd going
comes_going (Refused kind reply) Q going comes = absurd going

ends_going : (out : Outcome) (Q : Type 0) → GoesOn out → Ends out Q → ⊥
ends_going (Reply r) Q going ends = ends
ends_going (Final r) Q going ends = ends
ends_going Finished Q going ends = going
ends_going (Refused kind reply) Q going ends = going

pub client_one : (e : End) → e ≡ Client → one_of Client e ≡ 1
client_one Client is = refl
client_one Server is = absurd cc

pub server_none : (e : End) → e ≡ Server → one_of Client e ≡ 0
server_none Client is = absurd cc
server_none Server is = refl

module _ {C D P : Type 0} (c : Meaning ContextSetting C) (k : KdcCalls D) (p : ProxyMeaning P)
    (a : ClientView C) (b : ServerView C P) (kdc_first : D) where
  abbrev CView : Type 0
  CView = ClientView C

  abbrev SView : Type 0
  SView = ServerView C P

  -- What is known of an exchange that ends after the client's message number `last`, from 0 on. In
  -- each round the client makes a message from what it is given. In all rounds but the last the
  -- server takes it and makes a message; in the last it ends with this identity.
  pub record IsKnown (last : ℕ) (identity : AuthIdentity) : Type 1 where
    pub Round : Type 0
    pub start : Round
    pub next : Round → Round
    pub is_last : Round → Bool
    pub rank : Round → ℕ
    pub start_rank : rank start ≡ 0
    pub next_rank : (i : Round) → is_last i ≡ false → rank (next i) ≡ suc (rank i)
    pub last_rank : (i : Round) → is_last i ≡ true → rank i ≡ last
    pub rank_within : (i : Round) → rank i ≤ last
    -- what the client is given, its message, and the server's
    pub given : Round → TsRequest
    pub up : Round → TsRequest
    pub down : Round → TsRequest
    pub given_start : given start ≡ first_request
    pub given_next : (i : Round) → is_last i ≡ false → given (next i) ≡ carried (down i)
    pub up_fits : (i : Round) → IsMessage (up i)
    pub down_fits : (i : Round) → is_last i ≡ false → IsMessage (down i)
    -- the state of each end before it acts in a round
    pub ClientAt : Round → CView → D → Type 0
    pub ServerAt : Round → SView → Type 0
    pub client_start : ClientAt start a kdc_first
    pub server_start : ServerAt start b
    pub client_goes : (i : Round) (x mid : CView) (kdc kdc2 : D) (d : TsRequest) (out : Outcome) → ClientAt i x kdc → d ≡ given i →
        ClientMakes c k x kdc d out mid kdc2 → Comes out (λ r. (r ≡ up i) ×
        (is_last i ≡ false → ClientAt (next i) (record mid { output = [] }) kdc2))
    pub server_goes : (i : Round) (y mid : SView) (d : TsRequest) (out : Outcome) → is_last i ≡ false → ServerAt i y →
        d ≡ carried (up i) → p.told y.proxy ≡ p.told b.proxy →
        p.faults mid.proxy ≡ p.faults y.proxy → p.faults y.proxy < 2 ^ 64 - 1 → ServerMakes c p y d out mid →
        Comes out (λ r. (r ≡ down i) × ServerAt (next i) (record mid { output = [] }))
    pub server_ends : (i : Round) (y mid : SView) (d : TsRequest) (out : Outcome) → is_last i ≡ true → ServerAt i y → d ≡ carried (up i) →
        ServerMakes c p y d out mid → Ends out ((identity2 : AuthIdentity) → HoldsIdentity c mid.context d.auth_info identity2 →
        identity2 ≡ identity)

  -- ---- the newest turn of an exchange, and the ends before it

  -- one end makes the turn, and the other stays
  pub data Extends (t : Turn) (x : CView) (kdc : D) (y : SView) (x2 : CView) (kdc2 : D) (y2 : SView) : Type 0 where
    by_client : t.end ≡ Client → ClientMade c k x kdc t x2 kdc2 → y2 ≡ y → Extends t x kdc y x2 kdc2 y2
    by_server : t.end ≡ Server → ServerMade c p y t y2 → x2 ≡ x → kdc2 ≡ kdc → Extends t x kdc y x2 kdc2 y2

  pub record Peeled (t : Turn) (past : List Turn) (x2 : CView) (kdc2 : D) (y2 : SView) : Type 0 where
    pub x : CView
    pub kdc : D
    pub y : SView
    pub client : ClientHistory c k a kdc_first (client_turns past) x kdc
    pub server : ServerHistory c p b (server_turns past) y
    pub extends : Extends t x kdc y x2 kdc2 y2

  pub peel : (t : Turn) (past : List Turn) (x2 : CView) (kdc2 : D) (y2 : SView) →
      ClientHistory c k a kdc_first (client_turns (t ∷ past)) x2 kdc2 →
      ServerHistory c p b (server_turns (t ∷ past)) y2 → Peeled t past x2 kdc2 y2
  peel t past x2 kdc2 y2 clients servers = at t.end refl clients servers
    where
      at : (e : End) → t.end ≡ e → ClientHistory c k a kdc_first (onto_client e t (client_turns past)) x2 kdc2 →
          ServerHistory c p b (onto_server e t (server_turns past)) y2 → Peeled t past x2 kdc2 y2
      at Client is clients servers =
          record { x = clients.0; kdc = clients.1; y = y2; client = clients.2; server = servers; extends = by_client is clients.3 refl }
      at Server is clients servers =
          record { x = x2; kdc = kdc2; y = servers.0; client = clients; server = servers.1; extends = by_server is servers.2 refl refl }

  -- what a server's turns leave of its proxy
  pub record ProxySame (y : SView) : Type 0 where
    pub told_same : p.told y.proxy ≡ p.told b.proxy
    pub counted : p.faults b.proxy ≤ p.faults y.proxy

  pub proxy_same : (y : SView) (turns : List _) → ServerHistory c p b turns y → ProxySame y
  proxy_same y [] history = record {
    told_same = subst (λ (v : SView). p.told y.proxy ≡ p.told v.proxy) history refl;
    counted = subst (λ (v : SView). p.faults v.proxy ≤ p.faults y.proxy) history (omega arith);
  }
  proxy_same y (t ∷ past) history =
      let before = proxy_same history.0 past history.1 in
      let made = history.2 in
      subst (λ (v : SView). ProxySame v) (sym made.rest)
      (let asks = server_asks c p history.0 made.mid t.delivered t.outcome made.makes in
      record { told_same = asks.told_same ∙ before.told_same; counted = omega (arith, asks.faults_stay, before.counted) })

  -- the proxy has no fault in the exchange
  pub record IsCalmAt (y : SView) : Type 0 where
    pub still : p.faults y.proxy ≡ p.faults b.proxy
    pub few : p.faults b.proxy < 2 ^ 64 - 1

  calm_before : (t : Turn) (x x2 : CView) (kdc kdc2 : D) (y y2 : SView) → Extends t x kdc y x2 kdc2 y2 → ProxySame y → IsCalmAt y2 →
      IsCalmAt y
  calm_before t x x2 kdc kdc2 y y2 (by_client e made same) proxy calm =
      record { still = ap (λ (v : SView). p.faults v.proxy) (sym same) ∙ calm.still; few = calm.few }
  calm_before t x x2 kdc kdc2 y y2 (by_server e made same same_kdc) proxy calm =
      let rest : p.faults y2.proxy ≡ p.faults made.mid.proxy = ap (λ (v : SView). p.faults v.proxy) made.rest in
      let asks = server_asks c p y made.mid t.delivered t.outcome made.makes in
      record { still = omega (arith, rest, asks.faults_stay, proxy.counted, calm.still); few = calm.few }

  module _ (last : ℕ) (identity : AuthIdentity) (known : IsKnown last identity) where
    -- the ends between two turns that went on: before the client's turn of a round, or the server's
    pub data Stands (turns : List Turn) (x : CView) (kdc : D) (y : SView) : Type 0 where
      client_next : (i : known.Round) → known.ClientAt i x kdc → known.ServerAt i y → next_end turns ≡ Client →
          turns_of Client turns ≡ known.rank i →
          Sent turns (known.given i) → Stands turns x kdc y
      server_next : (i : known.Round) → (known.is_last i ≡ false → known.ClientAt (known.next i) x kdc) → known.ServerAt i y →
          next_end turns ≡ Server →
          turns_of Client turns ≡ suc (known.rank i) → Sent turns (carried (known.up i)) → Stands turns x kdc y

    -- what the next turn comes to, whether or not it goes on
    pub data TurnIs (t : Turn) (past : List Turn) (x2 : CView) (kdc2 : D) (y2 : SView) : Type 0 where
      client_turn : (i : known.Round) → t.end ≡ Client → turns_of Client past ≡ known.rank i → known.ServerAt i y2 →
          Comes t.outcome (λ r. (r ≡ known.up i) × (known.is_last i ≡ false → known.ClientAt (known.next i) x2 kdc2)) →
          TurnIs t past x2 kdc2 y2
      server_turn : (i : known.Round) → known.is_last i ≡ false → t.end ≡ Server → turns_of Client past ≡ suc (known.rank i) →
          known.ClientAt (known.next i) x2 kdc2 →
          Comes t.outcome (λ r. (r ≡ known.down i) × known.ServerAt (known.next i) y2) → TurnIs t past x2 kdc2 y2
      server_end : t.end ≡ Server → turns_of Client past ≡ suc last →
          Ends t.outcome ((identity2 : AuthIdentity) → HoldsIdentity c y2.context t.delivered.auth_info identity2 →
          identity2 ≡ identity) → TurnIs t past x2 kdc2 y2

    -- what the turn is given
    pub record NextTurn (base : List Carried) (t : Turn) (past : List Turn) (log : List Carried) : Type 0 where
      pub end_is : t.end ≡ next_end past
      pub entries : Logged base past log
      pub whole : AreWholePast (length base) log
      pub delivered : IsDelivered past log t.delivered

    server_turned : (base log : List Carried) (t : Turn) (past : List Turn) (x2 : CView) (kdc2 : D) (y y2 : SView) (i : known.Round)
        (b2 : Bool) → known.is_last i ≡ b2 →
        (known.is_last i ≡ false → known.ClientAt (known.next i) x2 kdc2) → known.ServerAt i y →
        turns_of Client past ≡ suc (known.rank i) → t.delivered ≡ carried (known.up i) →
        t.end ≡ Server → ServerMade c p y t y2 → ProxySame y → IsCalmAt y2 → TurnIs t past x2 kdc2 y2
    server_turned base log t past x2 kdc2 y y2 i true is client server count given e made proxy calm =
        server_end e (count ∙ ap suc (known.last_rank i is))
        (subst (λ (v : SView). Ends t.outcome ((identity2 : AuthIdentity) → HoldsIdentity c v.context t.delivered.auth_info identity2 →
        identity2 ≡ identity)) (sym made.rest)
        (known.server_ends i y made.mid t.delivered t.outcome is server given made.makes))
    server_turned base log t past x2 kdc2 y y2 i false is client server count given e made proxy calm =
        let rest : p.faults y2.proxy ≡ p.faults made.mid.proxy = ap (λ (v : SView). p.faults v.proxy) made.rest in
        let asks = server_asks c p y made.mid t.delivered t.outcome made.makes in
        let still : p.faults made.mid.proxy ≡ p.faults y.proxy = omega (arith, rest, asks.faults_stay, proxy.counted, calm.still) in
        server_turn i is e count (client is)
        (subst (λ (v : SView). Comes t.outcome (λ r. (r ≡ known.down i) × known.ServerAt (known.next i) v)) (sym made.rest)
        (known.server_goes i y made.mid t.delivered t.outcome is server given proxy.told_same still
        (omega (arith, rest, asks.faults_stay, proxy.counted, calm.still, calm.few)) made.makes))

    pub turned : (base : List Carried) (t : Turn) (past : List Turn) (log : List Carried) (x x2 : CView) (kdc kdc2 : D) (y y2 : SView) →
        Stands past x kdc y →
        NextTurn base t past log → Extends t x kdc y x2 kdc2 y2 → ProxySame y → IsCalmAt y2 → TurnIs t past x2 kdc2 y2
    turned base t past log x x2 kdc kdc2 y y2 (client_next i client server next count sent) n (by_client e made same) proxy calm =
        client_turn i e count (subst (known.ServerAt i) (sym same) server)
        (subst (λ (v : CView). Comes t.outcome (λ r. (r ≡ known.up i) × (known.is_last i ≡ false → known.ClientAt (known.next i) v kdc2)))
        (sym made.rest)
        (known.client_goes i x made.mid kdc kdc2 t.delivered t.outcome client
        (delivered_is base past log _ t.delivered sent n.entries n.whole n.delivered) made.makes))
    turned base t past log x x2 kdc kdc2 y y2 (client_next i client server next count sent) n (by_server e made same same_kdc) proxy calm =
        absurd (wrong_end t.end (n.end_is ∙ next) e)
    turned base t past log x x2 kdc kdc2 y y2 (server_next i client server next count sent) n (by_client e made same) proxy calm =
        absurd (wrong_end t.end e (n.end_is ∙ next))
    turned base t past log x x2 kdc kdc2 y y2 (server_next i client server next count sent) n (by_server e made same same_kdc) proxy calm =
        server_turned base log t past x2 kdc2 y y2 i (known.is_last i) refl
        (λ is. subst (λ (v : CView). known.ClientAt (known.next i) v kdc2) (sym same)
        (subst (known.ClientAt (known.next i) x) (sym same_kdc) (client is)))
        server count (delivered_is base past log _ t.delivered sent n.entries n.whole n.delivered) e made proxy calm

    -- ---- the state of the ends once it went on

    pub stands_on : (t : Turn) (past : List Turn) (x2 : CView) (kdc2 : D) (y2 : SView) → GoesOn t.outcome → TurnIs t past x2 kdc2 y2 →
        Stands (t ∷ past) x2 kdc2 y2
    stands_on t past x2 kdc2 y2 going (client_turn i e count server comes) =
        let m = comes_going t.outcome _ going comes in
        let one = client_one t.end e in
        server_next i m.2.1 server (ap other e) (omega (arith, count, one))
        (m.0, m.1, subst IsMessage (sym m.2.0) (known.up_fits i), ap carried (sym m.2.0))
    stands_on t past x2 kdc2 y2 going (server_turn i is e count client comes) =
        let m = comes_going t.outcome _ going comes in
        let none = server_none t.end e in
        let rank = known.next_rank i is in
        client_next (known.next i) client m.2.1 (ap other e) (omega (arith, count, none, rank))
        (m.0, m.1, subst IsMessage (sym m.2.0) (known.down_fits i is), known.given_next i is ∙ ap carried (sym m.2.0))
    stands_on t past x2 kdc2 y2 going (server_end e count ends) = absurd (ends_going t.outcome _ going ends)

    pub stands : (base : List Carried) (turns : List Turn) (log : List Carried) (x : CView) (kdc : D) (y : SView) → Alternates turns →
        AllGoOn turns → Logged base turns log →
        AreWholePast (length base) log → ClientHistory c k a kdc_first (client_turns turns) x kdc →
        ServerHistory c p b (server_turns turns) y →
        IsCalmAt y → Stands turns x kdc y
    stands base [] log x kdc y order going entries whole clients servers calm =
        subst (λ (v : CView). Stands [] v kdc y) (sym clients.0)
        (subst (λ (v : D). Stands [] a v y) (sym clients.1) (subst (λ (v : SView). Stands [] a kdc_first v) (sym servers)
        (client_next known.start known.client_start known.server_start refl (sym known.start_rank) known.given_start)))
    stands base (t ∷ past) [] x kdc y order going entries whole clients servers calm = absurd entries
    stands base (t ∷ past) (e ∷ log) x kdc y order going entries whole clients servers calm =
        let p = peel t past x kdc y clients servers in
        let proxy = proxy_same p.y (server_turns past) p.server in
        let s = stands base past log p.x p.kdc p.y order.2 going.1 entries.2 whole.1 p.client p.server
        (calm_before t p.x x p.kdc kdc p.y y p.extends proxy calm) in
        stands_on t past x kdc y going.0
        (turned base t past log p.x x p.kdc kdc p.y y s (record
        { end_is = order.0; entries = entries.2; whole = whole.1; delivered = entries.1 }) p.extends proxy calm)

    -- the newest turn of an exchange whose other turns went on
    pub newest_turn : (base : List Carried) (t : Turn) (past : List Turn) (log : List Carried) (x : CView) (kdc : D) (y : SView) →
        Alternates (t ∷ past) →
        IsDelivered past log t.delivered → Logged base past log → AreWholePast (length base) log →
        ClientHistory c k a kdc_first (client_turns (t ∷ past)) x kdc →
        ServerHistory c p b (server_turns (t ∷ past)) y → IsCalmAt y → TurnIs t past x kdc y
    newest_turn base t past log x kdc y order delivered entries whole clients servers calm =
        let p = peel t past x kdc y clients servers in
        let proxy = proxy_same p.y (server_turns past) p.server in
        let before = calm_before t p.x x p.kdc kdc p.y y p.extends proxy calm in
        let s = stands base past log p.x p.kdc p.y order.2 order.1 entries whole p.client p.server before in
        turned base t past log p.x x p.kdc kdc p.y y s (record
        { end_is = order.0; entries = entries; whole = whole; delivered = delivered }) p.extends proxy calm
