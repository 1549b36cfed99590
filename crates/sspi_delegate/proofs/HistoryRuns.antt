-- What the history of a fresh end says about its run, and about what it gave.
use Rattle.std.proofs.Common.{sym, refl, subst, arith, List, [], ◌∷◌, None, Some, Result, Ok, Err, IfOk}
use Rattle.sspi_types.specs.declared.error_kind.ErrorKind.{ErrorKind}
use Rattle.sspi_mech.specs.Context.{IsContext}
use Rattle.sspi_mech.specs.Meaning.{Meaning}
use Rattle.sspi_tsreq.specs.declared.request.TsRequest.{TsRequest}
use Rattle.sspi_credssp.specs.Ends.{ClientView, IsFreshClient, ServerView, IsFreshServer}
use Rattle.sspi_credssp.specs.ClientTurn.{ClientTurn, client_turn}
use Rattle.sspi_credssp.specs.Context.{ContextSetting}
use Rattle.sspi_credssp.specs.Proxy.{ProxyMeaning}
use Rattle.sspi_credssp.specs.ServerTurn.{ServerTurn, server_turn}
use Rattle.sspi_delegate.specs.declared.answer.Delegation.{Delegation}
use Rattle.sspi_delegate.specs.declared.answer.DelegateError.{DelegateError}
use Rattle.sspi_delegate.specs.Chain.{KdcCalls}
use Rattle.sspi_delegate.specs.Turns.{ClientRan, ClientFollows, server_end, ServerRan, ServerFollows, GivesNewest}
use Rattle.sspi_delegate.specs.Turns.{OthersGoOn, OthersUnrefused, GoesOn, AllGoOn, IsUnrefused, NoneRefused}
use Rattle.sspi_delegate.specs.History.{ClientMakes, ClientHistory, ClientLeft, between, waiting, ClientPast, ServerMakes, ServerHistory}
use Rattle.sspi_delegate.specs.History.{ServerPast, ProxyStays}
use Rattle.sspi_delegate.proofs.ClientSteps.{client_fresh, client_turned, client_replied, client_ended, client_underway}
use Rattle.sspi_delegate.proofs.Histories.{client_past_left, server_asks, server_past_history}
use Rattle.sspi_delegate.proofs.Refusing.{proxy_on, proxy_asked}
use Rattle.sspi_delegate.proofs.ServerSteps.{server_fresh, server_turned, server_follows, server_finished}
use Rattle.sspi_credssp.specs.declared.turn.Outcome.{Outcome}
use Rattle.sspi_credssp.specs.declared.turn.Outcome.TheVariants as outcome
use Rattle.sspi_credssp.specs.declared.turn.Turn.{Turn}

module _ {C : Type 0} (c : Meaning ContextSetting C) (law : IsContext c) where
  -- ---- the client

  client_follows_emptied : (first now : ClientView C) (past : List Turn) → ClientFollows c first now past →
      ClientFollows c first (record now { output = [] }) past
  client_follows_emptied first now past follows = record {
    ran = follows.ran;
    state = follows.state;
    noted = follows.noted;
    begun = follows.begun;
    idle = follows.idle;
    going = follows.going;
  }

  module _ {D : Type 0} (k : KdcCalls D) where
    pub client_turn_of : (old mid : ClientView C) (kdc kdc2 : D) (d : TsRequest) (out : Outcome) →
        ClientMakes c k old kdc d out mid kdc2 → ClientTurn c old d out mid
    client_turn_of old mid kdc kdc2 d (outcome.Reply reply) makes = makes.turn
    client_turn_of old mid kdc kdc2 d (outcome.Final reply) makes = makes.turn
    client_turn_of old mid kdc kdc2 d outcome.Finished makes = absurd makes
    client_turn_of old mid kdc kdc2 d (outcome.Refused kind None) makes =
        subst (λ (e : ErrorKind). ClientTurn c old d (outcome.Refused e None) mid) makes.1 makes.2.turn
    client_turn_of old mid kdc kdc2 d (outcome.Refused kind (Some reply)) makes = absurd makes

    pub client_went : (first old mid : ClientView C) (kdc kdc2 : D) (past : List Turn) (d : TsRequest) (out : Outcome) → GoesOn out →
        ClientFollows c first old past → ClientMakes c k old kdc d out mid kdc2 → ClientFollows c first mid (client_turn c d out mid ∷ past)
    client_went first old mid kdc kdc2 past d (outcome.Reply reply) went follows makes =
        client_replied c law first old mid past d reply makes.asked follows makes.turn makes.step
    client_went first old mid kdc kdc2 past d (outcome.Final reply) went follows makes =
        client_ended c law first old mid past d reply follows makes.turn
    client_went first old mid kdc kdc2 past d outcome.Finished went follows makes = absurd went
    client_went first old mid kdc kdc2 past d (outcome.Refused kind reply) went follows makes = absurd went

    pub history_follows : (first now : ClientView C) (kdc kdc2 : D) (turns : List Turn) → IsFreshClient first → AllGoOn turns →
        ClientHistory c k first kdc turns now kdc2 → ClientFollows c first now turns
    history_follows first now kdc kdc2 [] fresh went h = subst (λ (v : ClientView C). ClientFollows c first v []) (sym h.0)
        (client_fresh c first fresh)
    history_follows first now kdc kdc2 (t ∷ past) fresh went h =
        let made = h.3 in
        let follows = history_follows first h.0 kdc h.1 past fresh went.1 h.2 in
        subst (λ (x : Turn). ClientFollows c first now (x ∷ past)) (sym made.turn)
        (subst (λ (v : ClientView C). ClientFollows c first v (client_turn c t.delivered t.outcome made.mid ∷ past)) (sym made.rest)
        (client_follows_emptied first made.mid _ (client_went first h.0 made.mid h.1 kdc2 past t.delivered t.outcome went.0 follows
        made.makes)))

    pub history_ran : (first now : ClientView C) (kdc kdc2 : D) (turns : List Turn) → IsFreshClient first → OthersGoOn turns →
        ClientHistory c k first kdc turns now kdc2 → ClientRan c first now turns
    history_ran first now kdc kdc2 [] fresh others h = (history_follows first now kdc kdc2 [] fresh tt h).ran
    history_ran first now kdc kdc2 (t ∷ past) fresh others h =
        let made = h.3 in
        let follows = history_follows first h.0 kdc h.1 past fresh others h.2 in
        subst (λ (x : Turn). ClientRan c first now (x ∷ past)) (sym made.turn)
        (subst (λ (v : ClientView C). ClientRan c first v (client_turn c t.delivered t.outcome made.mid ∷ past)) (sym made.rest)
        (client_turned c law first h.0 made.mid past t.delivered t.outcome follows
        (client_turn_of h.0 made.mid h.1 kdc2 t.delivered t.outcome made.makes)))

    left_ran : (due : TsRequest → Type 0) (first now : ClientView C) (kdc kdc2 : D) (turns : List Turn) → IsFreshClient first →
        OthersGoOn turns → ClientLeft c k due first kdc turns now kdc2 → ClientRan c first now turns
    left_ran due first now kdc kdc2 turns fresh others (between h) = history_ran first now kdc kdc2 turns fresh others h
    left_ran due first now kdc kdc2 turns fresh others (waiting old kdc1 d is went h way) =
        client_underway c law first old now turns d (history_follows first old kdc kdc1 turns fresh went h) way.takes.turn.0

    pub client_past_ran : (due : TsRequest → Type 0) (first now : ClientView C) (kdc kdc2 : D) (turns : List Turn)
        (result : Result Delegation DelegateError) → IsFreshClient first → OthersGoOn turns →
        ClientPast c k due first kdc result turns now kdc2 → ClientRan c first now turns
    client_past_ran due first now kdc kdc2 turns result fresh others h =
        left_ran due first now kdc kdc2 turns fresh others (client_past_left c k due first now kdc kdc2 turns result h)

  -- ---- the server

  module _ {P : Type 0} (p : ProxyMeaning P) where
    server_follows_emptied : (first now : ServerView C P) (past : List Turn) → ServerFollows c first now past →
        ServerFollows c first (record now { output = [] }) past
    server_follows_emptied first now past follows = record {
      ran = follows.ran;
      state = follows.state;
      noted = follows.noted;
      unrefused = follows.unrefused;
    }

    pub server_turn_of : (old mid : ServerView C P) (d : TsRequest) (out : Outcome) → ServerMakes c p old d out mid →
        ServerTurn c old d out mid
    server_turn_of old mid d (outcome.Reply reply) makes = makes.turn
    server_turn_of old mid d (outcome.Final reply) makes = absurd makes
    server_turn_of old mid d outcome.Finished makes = makes.1.turn.0
    server_turn_of old mid d (outcome.Refused kind reply) makes =
        subst (λ (e : ErrorKind). ServerTurn c old d (outcome.Refused e reply) mid) makes.1 makes.2.turn

    pub server_went : (first old mid : ServerView C P) (past : List Turn) (d : TsRequest) (out : Outcome) → IsUnrefused out →
        ServerFollows c first old past → ServerMakes c p old d out mid → ServerFollows c first mid (server_turn c d out mid ∷ past)
    server_went first old mid past d (outcome.Reply reply) went follows makes =
        server_follows c law first old mid past d reply follows makes.turn
    server_went first old mid past d (outcome.Final reply) went follows makes = absurd makes
    server_went first old mid past d outcome.Finished went follows makes =
        server_finished c law first old mid past d follows makes.1.turn.0
    server_went first old mid past d (outcome.Refused kind reply) went follows makes = absurd went

    pub server_history_follows : (first now : ServerView C P) (turns : List Turn) → IsFreshServer first → NoneRefused turns →
        ServerHistory c p first turns now → ServerFollows c first now turns
    server_history_follows first now [] fresh went h = subst (λ (v : ServerView C P). ServerFollows c first v []) (sym h)
        (server_fresh c first fresh)
    server_history_follows first now (t ∷ past) fresh went h =
        let made = h.2 in
        let follows = server_history_follows first h.0 past fresh went.1 h.1 in
        subst (λ (x : Turn). ServerFollows c first now (x ∷ past)) (sym made.turn)
        (subst (λ (v : ServerView C P). ServerFollows c first v (server_turn c t.delivered t.outcome made.mid ∷ past)) (sym made.rest)
        (server_follows_emptied first made.mid _ (server_went first h.0 made.mid past t.delivered t.outcome went.0 follows made.makes)))

    pub server_history_ran : (first now : ServerView C P) (turns : List Turn) → IsFreshServer first → OthersUnrefused turns →
        ServerHistory c p first turns now → ServerRan c first now turns
    server_history_ran first now [] fresh others h = (server_history_follows first now [] fresh tt h).ran
    server_history_ran first now (t ∷ past) fresh others h =
        let made = h.2 in
        let follows = server_history_follows first h.0 past fresh others h.1 in
        subst (λ (x : Turn). ServerRan c first now (x ∷ past)) (sym made.turn)
        (subst (λ (v : ServerView C P). ServerRan c first v (server_turn c t.delivered t.outcome made.mid ∷ past)) (sym made.rest)
        (server_turned c law first h.0 made.mid past t.delivered t.outcome follows
        (server_turn_of h.0 made.mid t.delivered t.outcome made.makes)))

    pub server_past_ran : (first now : ServerView C P) (turns : List Turn) (result : Result Delegation DelegateError) →
        IsFreshServer first →
        OthersUnrefused turns → ServerPast c p first result turns now → ServerRan c first now turns
    server_past_ran first now turns result fresh others past =
        server_history_ran first now turns fresh others (server_past_history c p first now turns result past)

    pub server_past_gives : (first now : ServerView C P) (turns : List Turn) (result : Result Delegation DelegateError) →
        ServerPast c p first result turns now → IfOk result (λ delegation. GivesNewest c (server_end now) turns delegation.credentials)
    server_past_gives first now turns (Ok delegation) h = h.1
    server_past_gives first now turns (Err error) h = tt

    pub history_proxy : (first now : ServerView C P) (turns : List Turn) → ServerHistory c p first turns now →
        ProxyStays p first.proxy now.proxy
    history_proxy first now [] h = subst (λ (v : ServerView C P). ProxyStays p first.proxy v.proxy) (sym h)
        (record { told_same = refl; counted = omega arith; calm = λ none. refl })
    history_proxy first now (t ∷ past) h =
        let made = h.2 in
        subst (λ (v : ServerView C P). ProxyStays p first.proxy v.proxy) (sym made.rest)
        (proxy_on p first.proxy h.0.proxy made.mid.proxy (history_proxy first h.0 past h.1)
        (proxy_asked p _ _ _ (server_asks c p h.0 made.mid t.delivered t.outcome made.makes)))
