-- Each turn of a run is refused for the age of its peer's version exactly if it finds an old one.
use Rattle.std.proofs.Common.{◌≡◌, ℕ, ◌<◌, List, [], ◌∷◌, length, Bool, true, false, not, Option, None, Some, IsSome, Result, Err}
use Rattle.std.proofs.Common.{refl, sym, ◌∙◌, ap, subst, nat_lt, if◌then◌else◌, arith}
use Rattle.std.proofs.lemmas.Bool.{eq-eqb, ltb-true, lt-ltb, true≢false}
use Rattle.sspi_types.specs.declared.error.Error.{Error}
use Rattle.sspi_mech.specs.Context.{IsContext}
use Rattle.sspi_mech.specs.Meaning.{Meaning}
use Rattle.sspi_tsreq.specs.declared.request.TsRequest.{TsRequest}
use Rattle.sspi_credssp.specs.declared.turn.Outcome.{Outcome}
use Rattle.sspi_credssp.specs.declared.turn.Outcome.TheVariants as outcome
use Rattle.sspi_credssp.specs.declared.turn.Turn.{Turn}
use Rattle.sspi_credssp.specs.Ends.{ClientSettings, ClientView, IsFreshClient, ServerSettings, ServerView, IsFreshServer}
use Rattle.sspi_credssp.specs.Acts.{no_acts, is_waiting_in}
use Rattle.sspi_credssp.specs.ClientCall.{ClientKeeps}
use Rattle.sspi_credssp.specs.ClientTurn.{client_turn}
use Rattle.sspi_credssp.specs.Context.{ContextSetting}
use Rattle.sspi_credssp.specs.Noted.{is_old, is_old_in, differs, is_altered_in, noted_with}
use Rattle.sspi_credssp.specs.Proxy.{ProxyMeaning}
use Rattle.sspi_credssp.specs.ServerTurn.{server_turn}
use Rattle.sspi_credssp.specs.Requests.{is_code}
use Rattle.sspi_credssp.specs.Turn.{AtNoted, UnlessRefused, FitsNoted}
use Rattle.sspi_delegate.specs.declared.answer.Delegation.{Delegation}
use Rattle.sspi_delegate.specs.declared.answer.DelegateError.{DelegateError}
use Rattle.sspi_delegate.specs.Chain.{KdcCalls}
use Rattle.sspi_delegate.specs.Turns.{ClientEnd, client_end, ServerEnd, server_end, client_noted, EachClientTurn, HasBegun, ClientFollows}
use Rattle.sspi_delegate.specs.Turns.{server_noted, EachServerTurn, ServerFollows}
use Rattle.sspi_delegate.specs.Turns.{OthersGoOn, OthersUnrefused, GoesOn, AllGoOn, IsUnrefused, NoneRefused}
use Rattle.sspi_delegate.specs.Headline.{IsDowngrade, FindsOldServer, FindsOldClient, HeedsServer, HeedsClient}
use Rattle.sspi_delegate.specs.Headline.{EachHeedsServer, EachHeedsClient}
use Rattle.sspi_delegate.specs.History.{ClientMakes, ClientHistory, ClientLeft, between, waiting, ClientPast, ServerMakes}
use Rattle.sspi_delegate.specs.History.{ServerHistory, ServerPast}
use Rattle.sspi_delegate.proofs.ClientSteps.{client_underway, noted_by_two}
use Rattle.sspi_delegate.proofs.Histories.{client_past_left, server_past_history}
use Rattle.sspi_delegate.proofs.HistoryRuns.{client_turn_of, client_went, history_follows, server_turn_of, server_went}
use Rattle.sspi_delegate.proofs.HistoryRuns.{server_history_follows}
use Rattle.sspi_delegate.proofs.ServerSteps.{noted_by_one, server_turned}

-- what was pinned is not below the least
young_noted : (least version : ℕ) → IsSome (noted_with least None version) → version < least → ⊥
young_noted least version some old = young (nat_lt version least) version some (lt-ltb version least old)
  where
    young : (b : Bool) (v : ℕ) → IsSome (if b then None else Some v) → b ≡ true → ⊥
    young true v some was = absurd (cc (some))
    young false v some was = absurd (cc (was))

at_some : (noted : Option ℕ) (P : ℕ → Type 0) → AtNoted noted P → IsSome noted
at_some None P h = absurd h
at_some (Some v) P h = refl

goes_apart : (out : Outcome) → GoesOn out → IsDowngrade out → ⊥
goes_apart (outcome.Reply reply) goes h = h
goes_apart (outcome.Final reply) goes h = h
goes_apart outcome.Finished goes h = h
goes_apart (outcome.Refused kind reply) goes h = goes

unrefused_apart : (out : Outcome) → IsUnrefused out → IsDowngrade out → ⊥
unrefused_apart (outcome.Reply reply) un h = h
unrefused_apart (outcome.Final reply) un h = h
unrefused_apart outcome.Finished un h = h
unrefused_apart (outcome.Refused kind reply) un h = un

old_in : {C : Type 0} (context : Option C) (least : ℕ) (noted : Option ℕ) (version : ℕ) → IsSome context → noted ≡ None →
    nat_lt version least ≡ true → is_old_in context least noted version ≡ true
old_in None least noted version begun none old = absurd (cc (begun))
old_in (Some m) least noted version begun none old = rw none old

young_in : {C : Type 0} (context : Option C) (least : ℕ) (noted : Option ℕ) (version : ℕ) → IsSome noted →
    is_old_in context least noted version ≡ true → ⊥
young_in None least noted version some old = absurd (cc (old))
young_in (Some m) least None version some old = absurd (cc (some))
young_in (Some m) least (Some v) version some old = absurd (cc (old))

first_in : {C : Type 0} (context : Option C) (least : ℕ) (noted : Option ℕ) (version : ℕ) → noted ≡ None →
    is_old_in context least noted version ≡ true →
    nat_lt version least ≡ true
first_in None least noted version none old = absurd (cc (old))
first_in (Some m) least noted version none old = rw none at old

-- a turn that was not refused
went_fact : (out : Outcome) (Q : Type 0) → GoesOn out → UnlessRefused out Q → Q
went_fact (outcome.Reply reply) Q went h = h
went_fact (outcome.Final reply) Q went h = h
went_fact outcome.Finished Q went h = absurd went
went_fact (outcome.Refused kind reply) Q went h = absurd went

unrefused_fact : (out : Outcome) (Q : Type 0) → IsUnrefused out → UnlessRefused out Q → Q
unrefused_fact (outcome.Reply reply) Q un h = h
unrefused_fact (outcome.Final reply) Q un h = h
unrefused_fact outcome.Finished Q un h = h
unrefused_fact (outcome.Refused kind reply) Q un h = absurd un

fits_same : (noted : Option ℕ) (version : ℕ) → FitsNoted true noted version → differs noted version ≡ true → ⊥
fits_same None version fits altered = absurd fits
fits_same (Some n) version fits altered = true≢false (sym altered ∙ ap not (eq-eqb n version (sym fits)))

altered_in : {C : Type 0} (context : Option C) (noted : Option ℕ) (version : ℕ) → IsSome context → differs noted version ≡ true →
    is_altered_in context noted version ≡ true
altered_in None noted version begun altered = absurd (cc (begun))
altered_in (Some m) noted version begun altered = altered

module _ {C : Type 0} (c : Meaning ContextSetting C) where
  -- ---- a client's turns

  -- a turn that went on was sent no error, and no version other than the pinned one
  went_untold : (e : ClientEnd C) (t : Turn) (past : List Turn) → EachClientTurn c e (t ∷ past) → GoesOn t.outcome →
      is_code t.delivered.error_code ≡ true → ⊥
  went_untold e t past each went told = true≢false (sym told ∙ went_fact t.outcome _ went each.0.shown.code)

  went_same : (e : ClientEnd C) (t : Turn) (past : List Turn) → EachClientTurn c e (t ∷ past) → GoesOn t.outcome →
      differs (client_noted e.settings.least past) t.delivered.version ≡ true → ⊥
  went_same e t [] each went altered = absurd (cc (altered))
  went_same e t (u ∷ []) each went altered = absurd (cc (altered))
  went_same e t (u ∷ v ∷ past) each went altered =
      fits_same (client_noted e.settings.least (u ∷ v ∷ past)) t.delivered.version (went_fact t.outcome _ went each.0.shown.version) altered

  second_noted : (least : ℕ) (t : Turn) (past : List Turn) → (length past ≡ 1 → IsSome (client_noted least (t ∷ past))) →
      FindsOldServer least past t → ⊥
  second_noted least t [] noted found = absurd (omega (arith, found.second))
  second_noted least t (u ∷ []) noted found = young_noted least t.delivered.version (noted refl) found.old
  second_noted least t (u ∷ v ∷ past) noted found = absurd (omega (arith, found.second))

  some_noted : (e : ClientEnd C) (t : Turn) (past : List Turn) → EachClientTurn c e (t ∷ past) → AllGoOn (t ∷ past) →
      length past ≡ 1 → IsSome (client_noted e.settings.least (t ∷ past))
  some_noted e t [] each going second = absurd (omega (arith, second))
  some_noted e t (u ∷ past) each going second = noted_by_two c e t u past each going

  -- turns that went on
  went_heeds : (e : ClientEnd C) (past : List Turn) → EachClientTurn c e past → AllGoOn past → EachHeedsServer c e.settings.least past
  went_heeds e [] each going = tt
  went_heeds e (t ∷ past) each going = (
    record {
      refuses = λ found. absurd (second_noted e.settings.least t past (some_noted e t past each going) found);
      only = λ never is. absurd (goes_apart t.outcome going.0 is);
      told = λ told. absurd (went_untold e t past each going.0 told);
      altered = λ altered. absurd (went_same e t past each going.0 altered);
    },
    went_heeds e past each.1 going.1,
  )

  met_at : (old : ClientView C) (past : List Turn) (version : ℕ) → HasBegun c old.context past →
      old.noted ≡ client_noted old.settings.least past →
      length past ≡ 1 → nat_lt version old.settings.least ≡ true → is_old_in old.context old.settings.least old.noted version ≡ true
  met_at old [] version begun noted second below = absurd (omega (arith, second))
  met_at old (u ∷ []) version begun noted second below = old_in old.context old.settings.least old.noted version begun noted below
  met_at old (u ∷ v ∷ past) version begun noted second below = absurd (omega (arith, second))

  found_at : (old : ClientView C) (past : List Turn) (version : ℕ) → HasBegun c old.context past →
      old.noted ≡ client_noted old.settings.least past →
      EachClientTurn c (client_end old) past → AllGoOn past → is_old_in old.context old.settings.least old.noted version ≡ true →
      (length past ≡ 1) × (nat_lt version old.settings.least ≡ true)
  found_at old [] version begun noted each going met = absurd (true≢false (sym met ∙ rw begun refl))
  found_at old (u ∷ []) version begun noted each going met = (refl, first_in old.context old.settings.least old.noted version noted met)
  found_at old (u ∷ v ∷ past) version begun noted each going met =
      absurd (young_in old.context old.settings.least old.noted version
      (rw noted (noted_by_two c (client_end old) u v past each going)) met)

  altered_at : (old : ClientView C) (past : List Turn) (version : ℕ) → HasBegun c old.context past →
      old.noted ≡ client_noted old.settings.least past →
      differs (client_noted old.settings.least past) version ≡ true → is_altered_in old.context old.noted version ≡ true
  altered_at old [] version begun noted altered = absurd (cc (altered))
  altered_at old (u ∷ past) version begun noted altered = altered_in old.context old.noted version begun (rw noted altered)

  refused_told : (old mid : ClientView C) (d : TsRequest) (error : Error) → is_waiting_in c old.context ≡ false →
      ClientKeeps c old d (Err error) mid → is_code d.error_code ≡ true → mid.acts ≡ no_acts
  refused_told old mid d error idle kept told = ap (λ (v : ClientView C). v.acts) (kept.code idle told).0.1

  refused_altered : (code : Bool) (old mid : ClientView C) (d : TsRequest) (error : Error) → is_code d.error_code ≡ code →
      is_waiting_in c old.context ≡ false → ClientKeeps c old d (Err error) mid →
      is_altered_in old.context old.noted d.version ≡ true → mid.acts ≡ no_acts
  refused_altered true old mid d error is idle kept altered = refused_told old mid d error idle kept is
  refused_altered false old mid d error is idle kept altered = ap (λ (v : ClientView C). v.acts) (kept.altered idle is altered).1

  module _ (law : IsContext c) where
    module _ {D : Type 0} (k : KdcCalls D) where
      newest_heeds : (first old mid : ClientView C) (kdc kdc2 : D) (past : List Turn) (d : TsRequest) (out : Outcome) →
          ClientFollows c first old past →
          ClientMakes c k old kdc d out mid kdc2 → mid.settings.least ≡ old.settings.least →
          HeedsServer c mid.settings.least past (client_turn c d out mid)
      newest_heeds first old mid kdc kdc2 past d (outcome.Reply reply) follows makes same =
          let after = client_went c law k first old mid kdc kdc2 past d (outcome.Reply reply) tt follows makes in
          (went_heeds (client_end mid) (client_turn c d (outcome.Reply reply) mid ∷ past) after.ran.each after.going).0
      newest_heeds first old mid kdc kdc2 past d (outcome.Final reply) follows makes same =
          let after = client_went c law k first old mid kdc kdc2 past d (outcome.Final reply) tt follows makes in
          (went_heeds (client_end mid) (client_turn c d (outcome.Final reply) mid ∷ past) after.ran.each after.going).0
      newest_heeds first old mid kdc kdc2 past d outcome.Finished follows makes same = absurd makes
      newest_heeds first old mid kdc kdc2 past d (outcome.Refused kind None) follows makes same =
          let takes = makes.2 in
          record {
            refuses = λ found. sym makes.1 ∙ (takes.heeded.refuses (record {
              idle = follows.idle;
              code = found.code;
              old = met_at old past d.version follows.begun follows.noted found.second
                  (lt-ltb d.version old.settings.least (rw (← same) found.old));
            })).0;
            told = refused_told old mid d makes.0 follows.idle takes.kept;
            altered = λ altered. refused_altered (is_code d.error_code) old mid d makes.0 refl follows.idle takes.kept
                (altered_at old past d.version follows.begun follows.noted
                (subst (λ (n : ℕ). differs (client_noted n past) d.version ≡ true) same altered));
            only = λ never is.
                let met = takes.heeded.only never (makes.1 ∙ is) in
                let found = found_at old past d.version follows.begun follows.noted follows.ran.each follows.going met.old in
                record { second = found.0; code = met.code; old = rw same (ltb-true d.version old.settings.least found.1) };
          }
      newest_heeds first old mid kdc kdc2 past d (outcome.Refused kind (Some reply)) follows makes same = absurd makes

      history_heeds : (first now : ClientView C) (kdc kdc2 : D) (turns : List Turn) → IsFreshClient first → OthersGoOn turns →
          ClientHistory c k first kdc turns now kdc2 → EachHeedsServer c now.settings.least turns
      history_heeds first now kdc kdc2 [] fresh others h = tt
      history_heeds first now kdc kdc2 (t ∷ past) fresh others h =
          let made = h.3 in
          let follows = history_follows c law k first h.0 kdc h.1 past fresh others h.2 in
          let turn = client_turn_of c law k h.0 made.mid h.1 kdc2 t.delivered t.outcome made.makes in
          let same : made.mid.settings.least ≡ h.0.settings.least = ap (λ (s : ClientSettings). s.least) turn.moves.same in
          let least : now.settings.least ≡ made.mid.settings.least = ap (λ (v : ClientView C). v.settings.least) made.rest in (
            subst (λ (n : ℕ). HeedsServer c n past t) (sym least)
                (subst (λ (x : Turn). HeedsServer c made.mid.settings.least past x) (sym made.turn)
                (newest_heeds first h.0 made.mid h.1 kdc2 past t.delivered t.outcome follows made.makes same)),
            subst (λ (n : ℕ). EachHeedsServer c n past) (sym (least ∙ same))
                (went_heeds (client_end h.0) past follows.ran.each follows.going),
          )

      left_heeds : (due : TsRequest → Type 0) (first now : ClientView C) (kdc kdc2 : D) (turns : List Turn) → IsFreshClient first →
          OthersGoOn turns → ClientLeft c k due first kdc turns now kdc2 → EachHeedsServer c now.settings.least turns
      left_heeds due first now kdc kdc2 turns fresh others (between h) = history_heeds first now kdc kdc2 turns fresh others h
      left_heeds due first now kdc kdc2 turns fresh others (waiting old kdc1 d is went h way) =
          let ran = client_underway c law first old now turns d
          (history_follows c law k first old kdc kdc1 turns fresh went h) way.takes.turn.0 in
          went_heeds (client_end now) turns ran.each went

      pub client_past_heeds : (due : TsRequest → Type 0) (first now : ClientView C) (kdc kdc2 : D) (turns : List Turn)
          (result : Result Delegation DelegateError) → IsFreshClient first → OthersGoOn turns →
          ClientPast c k due first kdc result turns now kdc2 → EachHeedsServer c now.settings.least turns
      client_past_heeds due first now kdc kdc2 turns result fresh others h =
          left_heeds due first now kdc kdc2 turns fresh others (client_past_left c k due first now kdc kdc2 turns result h)

  -- ---- a server's turns

  first_noted : (context : Option C) (least : ℕ) (t : Turn) (past : List Turn) → IsSome (server_noted least (t ∷ past)) →
      FindsOldClient context least past t → ⊥
  first_noted context least t [] noted found = young_noted least t.delivered.version noted found.old
  first_noted context least t (u ∷ past) noted found = absurd (omega (arith, found.first))

  went_same_client : (e : ServerEnd C) (t : Turn) (past : List Turn) → EachServerTurn c e (t ∷ past) → IsUnrefused t.outcome →
      differs (server_noted e.settings.least past) t.delivered.version ≡ true → ⊥
  went_same_client e t [] each un altered = absurd (cc (altered))
  went_same_client e t (u ∷ past) each un altered =
      fits_same (server_noted e.settings.least (u ∷ past)) t.delivered.version (unrefused_fact t.outcome _ un each.0.shown.version) altered

  went_heeds_client : (context : Option C) (e : ServerEnd C) (past : List Turn) → EachServerTurn c e past → NoneRefused past →
      EachHeedsClient c context e.settings.least past
  went_heeds_client context e [] each going = tt
  went_heeds_client context e (t ∷ past) each going = (
    record {
      refuses = λ found. absurd (first_noted context e.settings.least t past (noted_by_one c e t past each going) found);
      only = λ never is. absurd (unrefused_apart t.outcome going.0 is);
      altered = λ altered. absurd (went_same_client e t past each going.0 altered);
    },
    went_heeds_client context e past each.1 going.1,
  )

  met_first : {P : Type 0} (old : ServerView C P) (past : List Turn) (version : ℕ) → old.noted ≡ server_noted old.settings.least past →
      length past ≡ 0 → nat_lt version old.settings.least ≡ true → is_old old.settings.least old.noted version ≡ true
  met_first old [] version noted first below = rw noted below
  met_first old (u ∷ past) version noted first below = absurd (omega (arith, first))

  found_first : {P : Type 0} (old : ServerView C P) (past : List Turn) (version : ℕ) → old.noted ≡ server_noted old.settings.least past →
      EachServerTurn c (server_end old) past → NoneRefused past → is_old old.settings.least old.noted version ≡ true →
      (length past ≡ 0) × (nat_lt version old.settings.least ≡ true)
  found_first old [] version noted each going met = (refl, rw noted at met)
  found_first old (u ∷ past) version noted each going met =
      absurd (young_in (Some old) old.settings.least old.noted version (rw noted (noted_by_one c (server_end old) u past each going)) met)

  module _ (law : IsContext c) {P : Type 0} (p : ProxyMeaning P) where
    newest_heeds_client : (first old mid : ServerView C P) (past : List Turn) (d : TsRequest) (out : Outcome) →
        ServerFollows c first old past →
        ServerMakes c p old d out mid → mid.settings.least ≡ old.settings.least →
        HeedsClient c mid.context mid.settings.least past (server_turn c d out mid)
    newest_heeds_client first old mid past d (outcome.Reply reply) follows makes same =
        let after = server_went c law p first old mid past d (outcome.Reply reply) tt follows makes in
        (went_heeds_client mid.context (server_end mid) (server_turn c d (outcome.Reply reply) mid ∷ past) after.ran.each after.unrefused).0
    newest_heeds_client first old mid past d (outcome.Final reply) follows makes same = absurd makes
    newest_heeds_client first old mid past d outcome.Finished follows makes same =
        let t : Turn = server_turn c d outcome.Finished mid in
        let ran = server_turned c law first old mid past d outcome.Finished follows makes.1.turn.0 in
        record {
          refuses = λ found. absurd (first_noted mid.context mid.settings.least t past
              (at_some (server_noted mid.settings.least (t ∷ past)) _ ran.each.0.shown.version) found);
          only = λ never is. absurd is;
          altered = λ altered. absurd (went_same_client (server_end mid) t past ran.each tt altered);
        }
    newest_heeds_client first old mid past d (outcome.Refused kind reply) follows makes same =
        let call = makes.2 in
        record {
          refuses = λ found. sym makes.1 ∙ (call.heeded.refuses (record {
            begun = found.begun;
            old = met_first old past d.version follows.noted found.first (lt-ltb d.version old.settings.least (rw (← same) found.old));
          })).0;
          altered = λ altered. ap (λ (v : ServerView C P). v.acts) (call.kept.altered (rw follows.noted
              (subst (λ (n : ℕ). differs (server_noted n past) d.version ≡ true) same altered))).1;
          only = λ never is.
              let met = call.heeded.only never (makes.1 ∙ is) in
              let found = found_first old past d.version follows.noted follows.ran.each follows.unrefused met.old in
              record { first = found.0; begun = met.begun; old = rw same (ltb-true d.version old.settings.least found.1) };
        }

    server_history_heeds : (first now : ServerView C P) (turns : List Turn) → IsFreshServer first → OthersUnrefused turns →
        ServerHistory c p first turns now → EachHeedsClient c now.context now.settings.least turns
    server_history_heeds first now [] fresh others h = tt
    server_history_heeds first now (t ∷ past) fresh others h =
        let made = h.2 in
        let follows = server_history_follows c law p first h.0 past fresh others h.1 in
        let turn = server_turn_of c law p h.0 made.mid t.delivered t.outcome made.makes in
        let same : made.mid.settings.least ≡ h.0.settings.least = ap (λ (s : ServerSettings). s.least) turn.moves.same in (
          subst (λ (v : ServerView C P). HeedsClient c v.context v.settings.least past t) (sym made.rest)
              (subst (λ (x : Turn). HeedsClient c made.mid.context made.mid.settings.least past x) (sym made.turn)
              (newest_heeds_client first h.0 made.mid past t.delivered t.outcome follows made.makes same)),
          subst (λ (v : ServerView C P). EachHeedsClient c v.context v.settings.least past) (sym made.rest)
              (subst (λ (n : ℕ). EachHeedsClient c made.mid.context n past) (sym same)
              (went_heeds_client made.mid.context (server_end h.0) past follows.ran.each follows.unrefused)),
        )

    pub server_past_heeds : (first now : ServerView C P) (turns : List Turn) (result : Result Delegation DelegateError) →
        IsFreshServer first →
        OthersUnrefused turns → ServerPast c p first result turns now → EachHeedsClient c now.context now.settings.least turns
    server_past_heeds first now turns result fresh others past =
        server_history_heeds first now turns fresh others (server_past_history c p first now turns result past)
