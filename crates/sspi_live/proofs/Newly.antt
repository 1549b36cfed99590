-- What holds of an end over a channel that was fresh.
use Rattle.std.proofs.Common.{◌≡◌, ℕ, true, inl, inr, List, [], ◌∷◌, None, Result, Ok, Err, OnOk, sym, subst}
use Rattle.sspi_types.specs.declared.error.Error.{Error}
use Rattle.sspi_mech.specs.Context.{IsContext}
use Rattle.sspi_mech.specs.Meaning.{Meaning}
use Rattle.sspi_tsreq.specs.declared.request.TsRequest.{TsRequest}
use Rattle.sspi_credssp.specs.declared.turn.End.TheVariants.{Client, Server}
use Rattle.sspi_credssp.specs.declared.turn.Outcome.{Outcome}
use Rattle.sspi_credssp.specs.declared.turn.Outcome.TheVariants as outcome
use Rattle.sspi_credssp.specs.declared.turn.Turn.{Turn}
use Rattle.sspi_credssp.specs.Turn.{ShownFrame, ShowsReply, client_shown}
use Rattle.sspi_credssp.specs.Context.{ContextSetting}
use Rattle.sspi_credssp.specs.Ends.{ClientView, IsFreshClient, IsFreshServer, ServerView}
use Rattle.sspi_credssp.specs.Proxy.{ProxyMeaning}
use Rattle.sspi_delegate.specs.declared.answer.Delegation.{Delegation}
use Rattle.sspi_delegate.specs.declared.answer.DelegateError.{DelegateError}
use Rattle.sspi_delegate.specs.declared.answer.DelegateError.TheVariants as errors
use Rattle.sspi_delegate.specs.Chain.{ClientChained, KdcCalls, client_stage}
use Rattle.sspi_delegate.specs.Headline.{HasExchanged}
use Rattle.sspi_delegate.specs.History.{ClientPast, ClientRefused, ServerPast, ServerRefused}
use Rattle.sspi_delegate.specs.Log.{NewestIs}
use Rattle.sspi_delegate.specs.Turns.{ClientEnd, EachClientTurn, EachServerTurn, OthersGoOn, ServerEnd, client_frame_at, server_end}
use Rattle.sspi_delegate.proofs.Alternating.{others_go, others_unrefused}
use Rattle.sspi_delegate.proofs.Chained.{client_past_chained, server_past_chained}
use Rattle.sspi_delegate.proofs.Headline.{client_sealed_once, exchanged, seals_after_proof, server_never_seals}
use Rattle.sspi_delegate.proofs.Heeding.{client_past_heeds, server_past_heeds}
use Rattle.sspi_delegate.proofs.HistoryRuns.{client_past_ran, server_past_gives, server_past_ran}
use Rattle.sspi_delegate.proofs.Refused.{client_refused, server_refused}
use Rattle.sspi_live.specs.Answers.{Connects, IsLast, Lacks, Refuses, RefusesUntold, Serves, Stops}
use Rattle.sspi_live.specs.Answers.{for_a_message, for_a_refusal, for_a_request, for_a_turn, of_the_end}
use Rattle.sspi_live.specs.Channel.{Channel}
use Rattle.sspi_live.specs.Fresh.{ConnectedFresh, HasSealed, ServedFresh}
use Rattle.sspi_live.specs.Pasts.{ConnectChained, ConnectPast}
use Rattle.sspi_live.specs.Sides.{AreOf}
use Rattle.sspi_live.proofs.Stepping.{own_servers}
use Rattle.sspi_credssp.specs.declared.turn.End.{End}
use Rattle.sspi_types.specs.declared.error_kind.ErrorKind.{ErrorKind}

-- ---- at every answer, each turn but the newest went on

refuses_others : (end : End) (kind : ErrorKind) (turns : List Turn) (before after : Channel) → Refuses end kind turns before after →
    OthersGoOn turns
refuses_others Client kind turns before after r = r.1.going
refuses_others Server kind turns before after r = r.3.turned.going

untold_others : (end : End) (kind : ErrorKind) (turns : List Turn) (before after : Channel) → RefusesUntold end kind turns before after →
    OthersGoOn turns
untold_others Client kind turns before after r = absurd r
untold_others Server kind turns before after r = r.1.turned.going

lacks_others : (end : End) (limit : ℕ) (turns : List Turn) (before after : Channel) → Lacks end limit turns before after →
    OthersGoOn turns
lacks_others end limit turns before after (for_a_request f) = others_go turns f.so_far.going
lacks_others end limit turns before after (for_a_turn d within due) = others_go turns due.going
lacks_others end limit turns before after (for_a_message f) = others_go turns f.0
lacks_others end limit turns before after (of_the_end r) = refuses_others end _ turns before after r
lacks_others end limit turns before after (for_a_refusal kind r) = untold_others end kind turns before after r

stops_others : (end : End) (limit : ℕ) (error : DelegateError) (turns : List Turn) (before after : Channel) →
    Stops end limit error turns before after → OthersGoOn turns
stops_others end limit (errors.Client error) turns before after s = refuses_others Client _ turns before after s.2
stops_others end limit (errors.Server error) turns before after s = refuses_others Server _ turns before after s.2
stops_others end limit (errors.Read to kind) turns before after s = others_go turns s.so_far.going
stops_others end limit (errors.Write from) turns before after s = others_go turns s.0
stops_others end limit errors.LinkFault turns before after (inl f) = others_go turns f.so_far.going
stops_others end limit errors.LinkFault turns before after (inr f) = others_go turns f.0
stops_others end limit errors.TurnsSpent turns before after s = others_go turns s.1.going
stops_others end limit errors.InsufficientMemory turns before after s = lacks_others end limit turns before after s

serves_others : (limit : ℕ) (before after : Channel) (result : Result Delegation DelegateError) (turns : List Turn) →
    Serves limit before after result turns → OthersGoOn turns
serves_others limit before after (Ok delegation) turns s = s.2.going
serves_others limit before after (Err error) turns s = stops_others Server limit error turns before after s

connects_others : (limit : ℕ) (before after : Channel) (result : Result ℕ DelegateError) (turns : List Turn) →
    Connects limit before after result turns → OthersGoOn turns
connects_others limit before after (Ok rounds) turns s = others_go turns s.1.going
connects_others limit before after (Err error) turns s = stops_others Client limit error turns before after s

-- ---- the server

-- a server asks no KDC
no_kdc : KdcCalls (Unit {0})
no_kdc = record { replies = λ a asked b. Unit {0}; lost = λ a b. Unit {0} }

module _ {C P : Type 0} (c : Meaning ContextSetting C) (law : IsContext c) (p : ProxyMeaning P) where
  ok_exchanged : (limit : ℕ) (before after : Channel) (result : Result Delegation DelegateError) (turns : List Turn) (e : ServerEnd C) →
      Serves limit before after result turns → AreOf Server turns → EachServerTurn c e turns → OnOk result (HasExchanged turns)
  ok_exchanged limit before after (Ok delegation) turns e s whose each =
      subst (λ (l : List Turn). HasExchanged l) (own_servers turns whose)
      (exchanged c e turns s.1 (subst (λ (l : List Turn). EachServerTurn c e l) (sym (own_servers turns whose)) each))
  ok_exchanged limit before after (Err error) turns e s whose each = tt

  its_refusal : (first now : ServerView C P) (turns : List Turn) (result : Result Delegation DelegateError) (error : Error) →
      IsFreshServer first → OthersGoOn turns → ServerPast c p first result turns now → result ≡ Err (errors.Server error) →
      ServerRefused c p first error now turns
  its_refusal first now turns result error fresh others past is =
      server_refused c law p no_kdc first now turns error fresh (others_unrefused turns others)
      (subst (λ (r : Result Delegation DelegateError). ServerPast c p first r turns now) is past)

  pub served_fresh : (limit : ℕ) (before after : Channel) (first now : ServerView C P) (turns : List Turn)
      (result : Result Delegation DelegateError) → Serves limit before after result turns → AreOf Server turns →
      ServerPast c p first result turns now → IsFreshServer first → ServedFresh c p first result turns now
  served_fresh limit before after first now turns result s whose past fresh =
      let others : OthersGoOn turns = serves_others limit before after result turns s in
      let unrefused = others_unrefused turns others in
      let ran = server_past_ran c law p first now turns result fresh unrefused past in
      record {
        the_turns_are_a_run = ran;
        it_heeds_its_client = server_past_heeds c law p first now turns result fresh unrefused past;
        it_never_seals = server_never_seals c (server_end now) turns ran.each;
        the_identity_is_what_was_opened_last = server_past_gives c law p first now turns result past;
        both_proofs_came_before_ok = ok_exchanged limit before after result turns (server_end now) s whose ran.each;
        it_has_the_context_of_its_chain = server_past_chained c p first law fresh now turns result unrefused past;
        a_refusal_has_its_cause = λ error is. its_refusal first now turns result error fresh others past is;
      }

-- ---- the client

-- a client's last message has the credentials that it sealed
last_sealed : (f : ShownFrame) (t : Turn) (out : Outcome) → IsLast out → ShowsReply f t out →
    (t.acts.checked ≡ true) × (t.acts.sealed ≡ true)
last_sealed f t (outcome.Reply reply) last h = absurd (cc (last))
last_sealed f t (outcome.Final reply) last h = (h.checked, h.sealed)
last_sealed f t outcome.Finished last h = absurd (cc (last))
last_sealed f t (outcome.Refused kind reply) last h = absurd (cc (last))

newest_sealed : {C : Type 0} (c : Meaning ContextSetting C) (e : ClientEnd C) (turns : List Turn) → NewestIs Client IsLast turns →
    EachClientTurn c e turns → HasSealed turns
newest_sealed c e [] newest each = absurd newest
newest_sealed c e (t ∷ past) newest each =
    last_sealed (client_shown (client_frame_at e past t)) t t.outcome newest.1 each.0.shown.reply

ok_sealed : {C : Type 0} (c : Meaning ContextSetting C) (e : ClientEnd C) (limit : ℕ) (before after : Channel)
    (result : Result ℕ DelegateError) (turns : List Turn) → Connects limit before after result turns → EachClientTurn c e turns →
    OnOk result (HasSealed turns)
ok_sealed c e limit before after (Ok rounds) turns s each = newest_sealed c e turns s.1.newest each
ok_sealed c e limit before after (Err error) turns s each = tt

-- a client asks no proxy
no_proxy : ProxyMeaning (Unit {0})
no_proxy = record { told = λ x. record { entries = None; answers = λ name. None; failing = None }; calls = λ x. 0; faults = λ x. 0 }

-- the answer of an exchange whose client has the same history
stopped_as : Result ℕ DelegateError → Result Delegation DelegateError
stopped_as (Ok rounds) = Err errors.TurnsSpent
stopped_as (Err error) = Err error

module _ {C D : Type 0} (c : Meaning ContextSetting C) (law : IsContext c) (k : KdcCalls D) (due : TsRequest → Type 0)
    (first now : ClientView C) (kdc kdc2 : D) (turns : List Turn) where
  as_past : (result : Result ℕ DelegateError) → ConnectPast c k due first kdc result turns now kdc2 →
      ClientPast c k due first kdc (stopped_as result) turns now kdc2
  unfolding stopped_as
  as_past (Ok rounds) past = past
  as_past (Err error) past = past

  as_chained : (result : Result ℕ DelegateError) → ClientChained c k first due kdc (stopped_as result) turns (client_stage now kdc2) →
      ConnectChained c k due first kdc result turns (client_stage now kdc2)
  unfolding stopped_as
  as_chained (Ok rounds) chain = chain
  as_chained (Err (errors.Client error)) chain = chain
  as_chained (Err (errors.Server error)) chain = chain
  as_chained (Err (errors.Read to kind)) chain = chain
  as_chained (Err (errors.Write from)) chain = chain
  as_chained (Err errors.LinkFault) chain = chain
  as_chained (Err errors.TurnsSpent) chain = chain
  as_chained (Err errors.InsufficientMemory) chain = chain

  its_client_refusal : (result : Result ℕ DelegateError) (error : Error) → IsFreshClient first → OthersGoOn turns →
      ConnectPast c k due first kdc result turns now kdc2 → result ≡ Err (errors.Client error) →
      ClientRefused c k first kdc error now kdc2 turns
  its_client_refusal result error fresh others past is =
      client_refused c law no_proxy k first now kdc kdc2 turns error fresh others
      (subst (λ (r : Result ℕ DelegateError). ConnectPast c k due first kdc r turns now kdc2) is past)

  pub connected_fresh : (limit : ℕ) (before after : Channel) (result : Result ℕ DelegateError) →
      Connects limit before after result turns → ConnectPast c k due first kdc result turns now kdc2 → IsFreshClient first →
      ConnectedFresh c k due first kdc result turns now kdc2
  connected_fresh limit before after result s past fresh =
      let others : OthersGoOn turns = connects_others limit before after result turns s in
      let went = as_past result past in
      let ran = client_past_ran c law k due first now kdc kdc2 turns (stopped_as result) fresh others went in
      let heeds = client_past_heeds c law k due first now kdc kdc2 turns (stopped_as result) fresh others went in
      record {
        the_turns_are_a_run = ran;
        it_heeds_its_server = heeds;
        credentials_are_sealed_at_most_once = client_sealed_once c _ turns ran.each ran.others;
        it_seals_after_the_proof = seals_after_proof c _ _ turns ran.each heeds;
        credentials_are_sealed_before_ok = ok_sealed c _ limit before after result turns s ran.each;
        it_has_the_context_of_its_chain = as_chained result
            (client_past_chained c k first law fresh due now kdc kdc2 turns (stopped_as result) others went);
        a_refusal_has_its_cause = λ error is. its_client_refusal result error fresh others past is;
      }
