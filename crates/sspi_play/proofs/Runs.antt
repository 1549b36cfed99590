-- What the accounts of a play say about it when both ends were fresh.
use Rattle.std.proofs.Common.{◌≡◌, List, [], ◌∷◌, length, reverse, take, Option, Some, Result, Ok, Err, IfOk, ◌∙◌, ap, refl}
use Rattle.std.proofs.Common.{subst}
use Rattle.sspi_mech.specs.Context.{IsContext}
use Rattle.sspi_mech.specs.Meaning.{Meaning}
use Rattle.sspi_tsreq.specs.declared.request.TsRequest.{TsRequest}
use Rattle.sspi_names.specs.declared.identity.AuthIdentity.{AuthIdentity}
use Rattle.sspi_credssp.specs.Ends.{ClientSettings, ClientView, IsFreshClient, ServerView, IsFreshServer}
use Rattle.sspi_credssp.specs.Context.{ContextSetting}
use Rattle.sspi_credssp.specs.Proxy.{ProxyMeaning}
use Rattle.sspi_credssp.specs.declared.turn.End.TheVariants.{Client, Server}
use Rattle.sspi_credssp.specs.declared.turn.Turn.{Turn}
use Rattle.sspi_delegate.specs.declared.answer.DelegateError.{DelegateError}
use Rattle.sspi_delegate.specs.declared.answer.DelegateError.TheVariants as errors
use Rattle.sspi_delegate.specs.Chain.{KdcCalls, client_stage}
use Rattle.sspi_delegate.specs.Turns.{client_end, server_end}
use Rattle.sspi_delegate.specs.Turns.{client_turns, server_turns, OthersGoOn, OthersUnrefused, AllGoOn}
use Rattle.sspi_delegate.specs.History.{ClientHistory, ClientLeft, between, waiting, ClientRefused, ServerRefused}
use Rattle.sspi_delegate.proofs.Chained.{client_chained, client_past_chained, server_past_chained}
use Rattle.sspi_delegate.proofs.Headline.{sealed_once}
use Rattle.sspi_delegate.proofs.Heeding.{client_past_heeds, server_past_heeds}
use Rattle.sspi_delegate.proofs.HistoryRuns.{client_past_ran, server_past_ran}
use Rattle.sspi_play.specs.declared.played.Delivery.{Delivery}
use Rattle.sspi_play.specs.declared.played.Played.{Played}
use Rattle.sspi_play.specs.Agreement.{AgreesIfFaithful}
use Rattle.sspi_play.specs.History.{ClientPlayed, ClientPlayedChain, Gave, GaveIn, IfRefused}
use Rattle.sspi_play.specs.Kept.{identity_of}
use Rattle.sspi_play.specs.Played.{Both, PlaysBy, Accounts, IsPlay}
use Rattle.sspi_play.specs.Plays.{Plays, IsNext, last_refusal, first_unread}
use Rattle.sspi_play.proofs.Agreed.{agreement}
use Rattle.sspi_play.proofs.Histories.{history_goes}
use Rattle.sspi_play.proofs.Order.{others_of}
use Rattle.sspi_play.proofs.Refusals.{if_refused, client_cause, server_cause}

played_some : (schedule : List Delivery) (result : Result Played DelegateError) (turns : List Turn) → PlaysBy schedule result turns →
    (deliveries : List Delivery) × Plays deliveries turns
played_some schedule (Ok played) turns plays = (reverse schedule, plays)
played_some schedule (Err error) turns plays = (reverse (take plays.handed schedule), plays.plays)

going_others : (turns : List Turn) → AllGoOn turns → OthersGoOn turns
going_others [] going = tt
going_others (t ∷ past) going = going.1

module _ {C D : Type 0} (c : Meaning ContextSetting C) (k : KdcCalls D) where
  history_others : (first now : ClientView C) (kdc kdc2 : D) (turns : List Turn) → OthersUnrefused turns →
      ClientHistory c k first kdc turns now kdc2 → OthersGoOn turns
  history_others first now kdc kdc2 [] un h = tt
  history_others first now kdc kdc2 (t ∷ past) un h = history_goes c k first h.0 kdc h.1 past un h.2

  left_others : (due : TsRequest → Type 0) (first now : ClientView C) (kdc kdc2 : D) (turns : List Turn) → OthersUnrefused turns →
      ClientLeft c k due first kdc turns now kdc2 → OthersGoOn turns
  left_others due first now kdc kdc2 turns un (between h) = history_others first now kdc kdc2 turns un h
  left_others due first now kdc kdc2 turns un (waiting old kdc1 d is went h way) = going_others turns went

  pub played_left : (due : TsRequest → Type 0) (result : Result Played DelegateError) (first now : ClientView C) (kdc kdc2 : D)
      (turns : List Turn) → ClientPlayed c k {X = Played} due first kdc result turns now kdc2 → ClientLeft c k due first kdc turns now kdc2
  played_left due (Ok played) first now kdc kdc2 turns h = between h
  played_left due (Err error) first now kdc kdc2 turns h = h

module _ {C P D : Type 0} (c : Meaning ContextSetting C) (law : IsContext c) (p : ProxyMeaning P) (k : KdcCalls D) where
  played_chained : (due : TsRequest → Type 0) (result : Result Played DelegateError) (first now : ClientView C) (kdc kdc2 : D)
      (turns : List Turn) → IsFreshClient first → OthersGoOn turns →
      ClientPlayed c k {X = Played} due first kdc result turns now kdc2 →
      ClientPlayedChain c k {X = Played} due first kdc result turns (client_stage now kdc2)
  played_chained due (Ok played) first now kdc kdc2 turns fresh others h =
      client_chained c k first law fresh now kdc kdc2 turns others h
  played_chained due (Err error) first now kdc kdc2 turns fresh others h =
      client_past_chained c k first law fresh due now kdc kdc2 turns (Err errors.InsufficientMemory) others h

  client_is_refused : (schedule : List Delivery) (old new : Both C P D) (result : Result Played DelegateError) → IsFreshClient old.client →
      OthersGoOn (client_turns new.turns) → Accounts c p k schedule old result new →
      IfOk result (λ played. IfRefused played.client
      (λ error. ClientRefused c k old.client old.kdc error new.client new.kdc (client_turns new.turns)))
  client_is_refused schedule old new (Ok played) fresh others accounts =
      if_refused played.client (last_refusal (client_turns new.turns)) (first_unread Client (reverse schedule)) _
      accounts.deliveries_and_turns_say_how_the_ends_stand.client
      (client_cause c law p k old.client new.client old.kdc new.kdc (client_turns new.turns) fresh others
      accounts.client_turns_are_its_calls)
  client_is_refused schedule old new (Err error) fresh others accounts = tt

  server_is_refused : (schedule : List Delivery) (old new : Both C P D) (result : Result Played DelegateError) → IsFreshServer old.server →
      OthersUnrefused (server_turns new.turns) → Accounts c p k schedule old result new →
      IfOk result (λ played. IfRefused played.server
      (λ error. ServerRefused c p old.server error new.server (server_turns new.turns)))
  server_is_refused schedule old new (Ok played) fresh others accounts =
      if_refused played.server (last_refusal (server_turns new.turns)) (first_unread Server (reverse schedule)) _
      accounts.deliveries_and_turns_say_how_the_ends_stand.server
      (server_cause c law p k old.server new.server (server_turns new.turns) fresh others accounts.server_turns_are_its_calls)
  server_is_refused schedule old new (Err error) fresh others accounts = tt

  pub is_play : (schedule : List Delivery) (old new : Both C P D) (result : Result Played DelegateError) → IsFreshClient old.client →
      IsFreshServer old.server →
      Accounts c p k schedule old result new → IsPlay c p k schedule old result new
  is_play schedule old new result client_fresh server_fresh accounts =
      let plays = played_some schedule result new.turns accounts.the_turns_are_those_of_the_deliveries in
      let due = IsNext schedule new.turns in
      let left = played_left c k due result old.client new.client old.kdc new.kdc
      (client_turns new.turns) accounts.client_turns_are_its_calls in
      let client_others = left_others c k due old.client new.client old.kdc new.kdc (client_turns new.turns)
      (others_of Client plays.0 new.turns plays.1) left in
      let server_others = others_of Server plays.0 new.turns plays.1 in
      let client = client_past_ran c law k due old.client new.client old.kdc new.kdc (client_turns new.turns)
      (Err errors.InsufficientMemory) client_fresh client_others left in
      let server = server_past_ran c law p old.server new.server (server_turns new.turns)
      (Err errors.InsufficientMemory) server_fresh server_others
      accounts.server_turns_are_its_calls in
      record {
        client_ran = client;
        server_ran = server;
        client_heeds = client_past_heeds c law k due old.client new.client old.kdc new.kdc (client_turns new.turns)
            (Err errors.InsufficientMemory)
            client_fresh client_others left;
        server_heeds = server_past_heeds c law p old.server new.server (server_turns new.turns) (Err errors.InsufficientMemory)
            server_fresh server_others accounts.server_turns_are_its_calls;
        credentials_are_sealed_at_most_once = sealed_once c (client_end new.client)
            (server_end new.server) new.turns client.each client_others server.each;
        the_client_has_the_context_of_its_chain = played_chained due result old.client new.client old.kdc new.kdc
            (client_turns new.turns) client_fresh client_others accounts.client_turns_are_its_calls;
        the_server_has_the_context_of_its_chain = server_past_chained c p old.server law server_fresh new.server
            (server_turns new.turns) (Err errors.InsufficientMemory) server_others accounts.server_turns_are_its_calls;
        a_refusal_of_the_client_has_its_cause = client_is_refused schedule old new result client_fresh client_others accounts;
        a_refusal_of_the_server_has_its_cause = server_is_refused schedule old new result server_fresh server_others accounts;
      }

  given_in : (first now : ServerView C P) (identity : Option AuthIdentity) (given : AuthIdentity) (turns : List Turn) →
      identity ≡ Some given → Gave c p first identity turns now → GaveIn c p first given turns now
  given_in first now identity given turns is gave =
      let at : Gave c p first (Some given) turns now = subst (λ (o : Option AuthIdentity). Gave c p first o turns now) is gave in at

  identity_gave : (schedule : List Delivery) (old new : Both C P D) (result : Result Played DelegateError) →
      Accounts c p k schedule old result new →
      (given : AuthIdentity) → identity_of result ≡ Some given →
      GaveIn c p old.server given (server_turns new.turns) new.server
  identity_gave schedule old new (Ok played) accounts given is =
      given_in old.server new.server played.identity given (server_turns new.turns) is
      accounts.the_identity_is_that_of_the_turn_that_finished
  identity_gave schedule old new (Err error) accounts given is = absurd (cc (is))

  pub agrees_if_faithful : (schedule : List Delivery) (old new : Both C P D)
      (result : Result Played DelegateError) → length old.client.settings.nonce ≡ 32 →
      IsFreshServer old.server → IsPlay c p k schedule old result new → Accounts c p k schedule old result new →
      AgreesIfFaithful c (client_end new.client) (server_end new.server) new.turns (identity_of result)
  agrees_if_faithful schedule old new result long fresh play accounts = λ opens.
      agreement c (client_end new.client) (server_end new.server) law p old.server new.server new.turns (identity_of result) fresh refl
      (identity_gave schedule old new result accounts)
      (record {
        client_each = play.client_ran.each;
        client_others = play.client_ran.others;
        server_each = play.server_ran.each;
        server_others = play.server_ran.others;
        opens = opens;
      }) (ap (λ (s : ClientSettings). length s.nonce) play.client_ran.same ∙ long)
