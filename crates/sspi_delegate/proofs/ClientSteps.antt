-- One more turn of a client: what holds of its turns so far holds of them with this one.
use Rattle.std.proofs.Common.{◌≡◌, ℕ, ◌+◌, Bool, true, false, ◌&&◌, List, [], ◌∷◌, sym, ◌∙◌, ap, subst, refl, Option, None, Some}
use Rattle.std.proofs.Common.{is_some, IsSome, add-zero, if◌then◌else◌}
use Rattle.sspi_types.specs.declared.security_status.SecurityStatus.{SecurityStatus}
use Rattle.sspi_types.specs.declared.security_status.SecurityStatus.TheVariants as statuses
use Rattle.sspi_mech.specs.Context.{IsContext}
use Rattle.sspi_mech.specs.Meaning.{Meaning}
use Rattle.sspi_tsreq.specs.declared.request.TsRequest.{TsRequest}
use Rattle.sspi_credssp.specs.declared.acts.Acts.{Acts}
use Rattle.sspi_credssp.specs.declared.state.CredSspState.{CredSspState}
use Rattle.sspi_credssp.specs.declared.state.CredSspState.TheVariants.{NegoToken, PubKeyInfo, AuthInfo, Final}
use Rattle.sspi_credssp.specs.Acts.{sealings_by, unsealings_by, sealings_in, unsealings_in, no_acts, AddsActs, CountsEachAct}
use Rattle.sspi_credssp.specs.Acts.{SameBut, silent, is_waiting_in}
use Rattle.sspi_credssp.specs.Ends.{ClientSettings, ClientView, IsFreshClient}
use Rattle.sspi_credssp.specs.ClientTurn.{ClientTurn, IsUnderway, client_frame, client_turn, noted_next, state_after}
use Rattle.sspi_credssp.specs.ClientTurn.{client_args, Asked, Walked, stepped, resumed, still_asked, recounted, DoneStep}
use Rattle.sspi_names.specs.declared.credentials.CredentialsBuffers.{CredentialsBuffers}
use Rattle.sspi_mech.specs.declared.step.Answer.{Answer}
use Rattle.sspi_mech.specs.declared.step.Answer.TheVariants.{Done}
use Rattle.sspi_mech.specs.declared.step.Step.{Step}
use Rattle.sspi_credssp.specs.Context.{IfContext, ContextSetting}
use Rattle.sspi_credssp.specs.Noted.{noted_in, noted_with}
use Rattle.sspi_credssp.specs.Turn.{ClientFrame, UnlessRefused, FitsNoted, OnceNegotiated, ShowsClientActs, ShowsNego, client_shown}
use Rattle.sspi_delegate.specs.Turns.{ClientEnd, client_end, client_state, client_noted, has_turn, client_frame_at, EachClientTurn}
use Rattle.sspi_delegate.specs.Turns.{ClientRan, HasBegun, ClientFollows}
use Rattle.sspi_delegate.specs.Turns.{made_in, opened_in, is_replied, is_ended, any_proved, any_ended, OthersGoOn, GoesOn, AllGoOn}
use Rattle.sspi_credssp.proofs.Counting.{counted_by}
use Rattle.sspi_delegate.proofs.Alternating.{others_go}
use Rattle.sspi_delegate.proofs.ClientOver.{client_over}
use Rattle.sspi_delegate.proofs.EndSteps.{none_ran, or_false, or_not, is_false, IsQuiet, AllQuiet, quiet_made, Touched, touched, untouched}
use Rattle.sspi_delegate.proofs.EndSteps.{unless_given, unless_map, made_by_proof, made_by_seal, opened_by_check, unused_in, same_but}
use Rattle.sspi_credssp.specs.declared.turn.Outcome.{Outcome}
use Rattle.sspi_credssp.specs.declared.turn.Outcome.TheVariants as outcome
use Rattle.sspi_credssp.specs.declared.turn.Turn.{Turn}

-- ---- tests

state_nego : (ended proved : Bool) → (if ended then Final else (if proved then AuthInfo else NegoToken)) ≡ NegoToken → (ended ≡ false) ×
    (proved ≡ false)
state_nego true proved h = absurd (cc (h))
state_nego false true h = absurd (cc (h))
state_nego false false h = (refl, refl)

pub state_auth : (ended proved : Bool) → (if ended then Final else (if proved then AuthInfo else NegoToken)) ≡ AuthInfo →
    (ended ≡ false) × (proved ≡ true)
state_auth true proved h = absurd (cc (h))
state_auth false true h = (refl, refl)
state_auth false false h = absurd (cc (h))

-- ---- the version that is pinned

-- a turn that looked at its peer's version and was not refused has pinned it
pub went_noted : (noted : Option ℕ) (version : ℕ) (out : Outcome) → GoesOn out → UnlessRefused out (FitsNoted true noted version) →
    IsSome noted
went_noted (Some v) version out went fits = refl
went_noted None version (outcome.Reply reply) went fits = absurd fits
went_noted None version (outcome.Final reply) went fits = absurd fits
went_noted None version outcome.Finished went fits = absurd went
went_noted None version (outcome.Refused kind reply) went fits = absurd went

noted_kept : {C : Type 0} (context : Option C) (least : ℕ) (noted : Option ℕ) (version : ℕ) → IsSome noted →
    noted_in context least noted version ≡ noted
noted_kept None least noted version some = refl
noted_kept (Some m) least None version some = absurd (cc (some))
noted_kept (Some m) least (Some noted) version some = refl

noted_second : {C : Type 0} (context : Option C) (least : ℕ) (noted : Option ℕ) (version : ℕ) → IsSome context → noted ≡ None →
    noted_in context least noted version ≡ noted_with least None version
noted_second None least noted version begun none = absurd (cc (begun))
noted_second (Some m) least None version begun none = refl
noted_second (Some m) least (Some noted) version begun none = absurd (cc (none))

module _ {C : Type 0} (c : Meaning ContextSetting C) where
  -- each turn past the first has pinned a version
  pub noted_by_two : (e : ClientEnd C) (t u : Turn) (past : List Turn) → EachClientTurn c e (t ∷ u ∷ past) → AllGoOn (t ∷ u ∷ past) →
      IsSome (client_noted e.settings.least (t ∷ u ∷ past))
  noted_by_two e t u past each going = went_noted (client_noted e.settings.least (t ∷ u ∷ past)) t.delivered.version t.outcome going.0
      each.0.shown.version

  noted_more : (old : ClientView C) (t : Turn) (past : List Turn) → HasBegun c old.context past →
      old.noted ≡ client_noted old.settings.least past →
      EachClientTurn c (client_end old) past → AllGoOn past → noted_next c old t.delivered ≡ client_noted old.settings.least (t ∷ past)
  noted_more old t [] begun is each going = rw (begun, is) refl
  noted_more old t (u ∷ []) begun is each going = noted_second old.context old.settings.least old.noted t.delivered.version begun is
  noted_more old t (u ∷ v ∷ past) begun is each going =
      noted_kept old.context old.settings.least old.noted t.delivered.version
      (rw is (noted_by_two (client_end old) u v past each going)) ∙ is

  looks_more : (context : Option C) (past : List Turn) → HasBegun c context past → has_turn past ≡ is_some context
  looks_more context [] begun = rw begun refl
  looks_more context (t ∷ past) begun = sym begun

-- ---- turns that came before the client's proof

module _ {C : Type 0} (c : Meaning ContextSetting C) where
  -- in the authentication nothing is checked or sealed
  quiet_acts : (f : ClientFrame C) (t : Turn) → ShowsClientActs (client_shown f) t → f.state ≡ NegoToken → t.acts.proved ≡ false →
      IsQuiet t.acts
  quiet_acts f t acts nego unproved =
      let unchecked : t.acts.checked ≡ false = is_false t.acts.checked (λ was. let s = (acts.checked was).0 in absurd (cc (s, nego))) in
      record {
        proved = unproved;
        checked = unchecked;
        sealed = is_false t.acts.sealed (λ was. let s = acts.sealed was in absurd (cc (s, unchecked)));
        opened = acts.opened;
      }

  reply_unproved : (out : Outcome) (proved : Bool) → GoesOn out → is_ended out ≡ false → is_replied out && proved ≡ false → proved ≡ false
  reply_unproved (outcome.Reply reply) proved went ended h = h
  reply_unproved (outcome.Final reply) proved went ended h = absurd (cc (ended))
  reply_unproved outcome.Finished proved went ended h = absurd went
  reply_unproved (outcome.Refused kind reply) proved went ended h = absurd went

  nego_state : (past : List Turn) → any_proved past ≡ false → any_ended past ≡ false → client_state past ≡ NegoToken
  nego_state past unproved unended = rw (unended, unproved) refl

  all_quiet : (e : ClientEnd C) (past : List Turn) → EachClientTurn c e past → AllGoOn past → any_proved past ≡ false →
      any_ended past ≡ false → AllQuiet past
  all_quiet e [] each went unproved unended = tt
  all_quiet e (t ∷ past) each went unproved unended =
      let p = or_false (is_replied t.outcome && t.acts.proved) (any_proved past) unproved in
      let q = or_false (is_ended t.outcome) (any_ended past) unended in (
        quiet_acts (client_frame_at e past t) t each.0.shown.acts (nego_state past p.1 q.1)
            (reply_unproved t.outcome t.acts.proved went.0 q.0 p.0),
        all_quiet e past each.1 went.1 p.1 q.1,
      )

  -- nothing was sealed or opened in the authentication, so the effects add to what was counted
  counts_on : (first old : ClientView C) (past : List Turn) (acts : Acts) (now : Option C) → ClientFollows c first old past →
      CountsEachAct c old.state old.context acts now → AddsActs c old.context acts now
  counts_on first old past acts now follows counts = counted_by c old.state old.context acts now
      (λ nego.
      let s = state_nego (any_ended past) (any_proved past) (sym follows.state ∙ nego) in
      let quiet = all_quiet (client_end old) past follows.ran.each follows.going s.1 s.0 in
      let none = quiet_made past quiet in
      unused_in c old.context (follows.ran.made ∙ none.0) (follows.ran.opened ∙ none.1))
      counts

  -- ---- the turns before, over the context that the newest one left

  each_over : (law : IsContext c) (e e2 : ClientEnd C) (past : List Turn) → e2.settings ≡ e.settings →
      Touched (SameBut c e.context e2.context) past →
      EachClientTurn c e past → EachClientTurn c e2 past
  each_over law e e2 [] same touch each = tt
  each_over law e e2 (t ∷ past) same touch each = (
    client_over c law (client_frame_at e past t) (client_frame_at e2 past t) t (record {
      settings = same;
      state = refl;
      looks = refl;
      noted = unless_given t.outcome _ (ap (λ (s : ClientSettings). client_noted s.least (t ∷ past)) same);
      proved = λ was. (ap (λ (s : ClientSettings). client_noted s.least (t ∷ past)) same, refl, touch.0 was);
      checked = λ was. (ap (λ (s : ClientSettings). client_noted s.least (t ∷ past)) same, refl, touch.1 was);
      sealed = λ was. refl;
    }) each.0,
    each_over law e e2 past same touch.2 each.1,
  )

  touched_by : (e : ClientEnd C) (state : CredSspState) (past : List Turn) (P : Type 0) → state ≡ client_state past →
      EachClientTurn c e past → AllGoOn past →
      OnceNegotiated state P → Touched P past
  touched_by e NegoToken past P is each went bare =
      let s = state_nego (any_ended past) (any_proved past) (sym is) in untouched P past (all_quiet e past each went s.1 s.0)
  touched_by e PubKeyInfo past P is each went bare = touched P past bare
  touched_by e AuthInfo past P is each went bare = touched P past bare
  touched_by e Final past P is each went bare = touched P past bare

  -- ---- one more turn

  noted_of : (first old new : ClientView C) (t : Turn) (past : List Turn) → ClientFollows c first old past → new.settings ≡ old.settings →
      noted_next c old t.delivered ≡ client_noted new.settings.least (t ∷ past)
  noted_of first old new t past follows same =
      noted_more c old t past follows.begun follows.noted follows.ran.each follows.going ∙ sym
      (ap (λ (s : ClientSettings). client_noted s.least (t ∷ past)) same)

  -- a turn that proves seals nothing else, and one that seals the credentials proves nothing
  proved_alone : (f : ClientFrame C) (t : Turn) → ShowsClientActs (client_shown f) t → t.acts.proved ≡ true → t.acts.sealed ≡ false
  proved_alone f t acts was = is_false t.acts.sealed (λ sealed.
      let auth = (acts.checked (acts.sealed sealed)).0 in
      let answered : IsSome t.acts.status = rw (acts.proved was).0 refl in
      let nego = acts.negotiated (acts.answered answered) in absurd (cc (auth, nego)))

  sealed_alone : (f : ClientFrame C) (t : Turn) → ShowsClientActs (client_shown f) t → t.acts.sealed ≡ true → t.acts.proved ≡ false
  sealed_alone f t acts was = is_false t.acts.proved (λ proved. let s = proved_alone f t acts proved in absurd (cc (s, was)))

  pub client_turned : (law : IsContext c) (first old new : ClientView C) (past : List Turn) (d : TsRequest) (out : Outcome) →
      ClientFollows c first old past → ClientTurn c old d out new → ClientRan c first new (client_turn c d out new ∷ past)
  client_turned law first old new past d out follows turn =
      let t : Turn = client_turn c d out new in
      let counted = counts_on first old past new.acts new.context follows turn.moves.counts in
      let made : sealings_in c new.context ≡ made_in past + sealings_by new.acts =
      counted.0 ∙ ap (λ (n : ℕ). n + sealings_by new.acts) follows.ran.made in
      let opened : unsealings_in c new.context ≡ opened_in past + unsealings_by new.acts =
      counted.1 ∙ ap (λ (n : ℕ). n + unsealings_by new.acts) follows.ran.opened in
      let noted : noted_next c old d ≡ client_noted new.settings.least (t ∷ past) = noted_of first old new t past follows turn.moves.same in
      record {
        same = turn.moves.same ∙ follows.ran.same;
        made = made;
        opened = opened;
        each = (
          client_over c law (client_frame c old new) (client_frame_at (client_end new) past t) t (record {
            settings = refl;
            state = sym follows.state;
            looks = looks_more c old.context past follows.begun;
            noted = unless_map out _ _ (λ h. sym (h ∙ noted)) turn.moves.noted_going;
            proved = λ was. (
              sym (turn.moves.noted_proved was ∙ noted),
              made_by_proof new.acts (made_in past) (sealings_in c new.context) made was
                  (proved_alone (client_frame c old new) t turn.turn.shown.acts was),
              same_but c new.context,
            );
            checked = λ was. (
              sym (turn.moves.noted_checked was ∙ noted),
              opened_by_check new.acts (opened_in past) (unsealings_in c new.context) opened was turn.turn.shown.acts.opened,
              same_but c new.context,
            );
            sealed = λ was. made_by_seal new.acts (made_in past) (sealings_in c new.context) made was
                (sealed_alone (client_frame c old new) t turn.turn.shown.acts was);
          }) turn.turn,
          each_over law (client_end old) (client_end new) past turn.moves.same
              (touched_by (client_end old) old.state past (SameBut c old.context new.context) follows.state follows.ran.each follows.going
              turn.moves.bare)
              follows.ran.each,
        );
        others = follows.going;
      }

  -- the state after one more turn that went on
  pub reply_state : (f : ClientFrame C) (t : Turn) (status : Option SecurityStatus) (reply : TsRequest) →
      ShowsNego (client_shown f) t status reply → f.state ≡ NegoToken
  reply_state f t None reply h = absurd h
  reply_state f t (Some statuses.Ok) reply h = h.state
  reply_state f t (Some other) reply h = h.state

  replied_state : (f : ClientFrame C) (t : Turn) (past : List Turn) (reply : TsRequest) → f.state ≡ client_state past →
      t.outcome ≡ outcome.Reply reply →
      ShowsNego (client_shown f) t t.acts.status reply → state_after f.state (outcome.Reply reply) t.acts.proved ≡ client_state (t ∷ past)
  replied_state f t past reply is out h =
      let nego = reply_state f t t.acts.status reply h in
      let s = state_nego (any_ended past) (any_proved past) (sym is ∙ nego) in
      rw (out, nego, s.0, s.1, or_not t.acts.proved) refl

  -- a context that has ended its step waits for no KDC
  walked_idle : (law : IsContext c) (start : ClientView C) (handle : Option CredentialsBuffers) (token : Option (List ℕ)) (tries : ℕ)
      (log : List Asked)
      (answer : Answer) (step : Step) (m : C) → answer ≡ Done step → Walked c start handle token tries log answer m → c.waits m ≡ false
  walked_idle law start handle token tries log answer step m is (stepped m0 m1 a begun stepped_so) =
      law.step_done m0 m (client_args handle start.settings.target token) step
      (subst (λ (x : Answer). c.steps m0 (client_args handle start.settings.target token) x m) is stepped_so)
  walked_idle law start handle token tries log answer step m is (resumed m1 m2 tried before q reply a walked resumed_so) =
      law.resume_done m1 m reply step (subst (λ (x : Answer). c.resumes m1 reply x m) is resumed_so)
  walked_idle law start handle token tries log answer step m is (still_asked m1 m2 tried before q reply error walked resumed_so waits) =
      absurd (cc (is))
  walked_idle law start handle token tries log answer step m is (recounted m1 m2 n tried before a walked counted quiet) =
      rw counted (law.waits_counted m1 n ∙ walked_idle law start handle token tried log answer step m1 is walked)

  idle_context : (law : IsContext c) (start : ClientView C) (handle : Option CredentialsBuffers) (token : Option (List ℕ))
      (log : List Asked) (step : Step) (context : Option C) →
      IfContext context (Walked c start handle token 0 log (Done step)) → is_waiting_in c context ≡ false
  idle_context law start handle token log step None h = absurd h
  idle_context law start handle token log step (Some m) h = walked_idle law start handle token 0 log (Done step) step m refl h

  idle_in : (law : IsContext c) (start : ClientView C) (d : TsRequest) (log : List Asked) (status : Option SecurityStatus)
      (now : ClientView C) (f : ClientFrame C) (t : Turn) (reply : TsRequest) →
      ShowsNego (client_shown f) t status reply → DoneStep c status start d 0 log now → is_waiting_in c now.context ≡ false
  idle_in law start d log None now f t reply h step = absurd h
  idle_in law start d log (Some status) now f t reply h step =
      idle_context law start now.handle d.nego_tokens log (record { status = status; output = now.output }) now.context step

  -- a context that differs only in its counts waits if the other does
  waits_same : (law : IsContext c) (x y : Option C) → SameBut c x y → is_waiting_in c y ≡ is_waiting_in c x
  waits_same law None None same = refl
  waits_same law None (Some m2) same = absurd same
  waits_same law (Some m) None same = absurd same
  waits_same law (Some m) (Some m2) same = sym (law.waits_counted m2 (silent (c.counts m2))) ∙ ap c.waits same ∙ law.waits_counted m
      (silent (c.counts m))

  pub client_replied : (law : IsContext c) (first old new : ClientView C) (past : List Turn) (d : TsRequest) (reply : TsRequest)
      (asked : List Asked) → ClientFollows c first old past → ClientTurn c old d (outcome.Reply reply) new →
      DoneStep c new.acts.status old d 0 asked new → ClientFollows c first new (client_turn c d (outcome.Reply reply) new ∷ past)
  client_replied law first old new past d reply asked follows turn step = record {
    ran = client_turned law first old new past d (outcome.Reply reply) follows turn;
    state = turn.moves.state
        ∙ replied_state (client_frame c old new) (client_turn c d (outcome.Reply reply) new) past reply follows.state refl
        turn.turn.shown.reply;
    noted = turn.moves.noted_going ∙ noted_of first old new (client_turn c d (outcome.Reply reply) new) past follows turn.moves.same;
    begun = turn.moves.begun;
    idle = idle_in law old d asked new.acts.status new (client_frame c old new)
        (client_turn c d (outcome.Reply reply) new) reply turn.turn.shown.reply step;
    going = (tt, follows.going);
  }

  ended_idle : (law : IsContext c) (state : CredSspState) (old new : Option C) → state ≡ AuthInfo →
      OnceNegotiated state (SameBut c old new) →
      is_waiting_in c old ≡ false → is_waiting_in c new ≡ false
  ended_idle law NegoToken old new is bare idle = absurd (cc (is))
  ended_idle law PubKeyInfo old new is bare idle = absurd (cc (is))
  ended_idle law AuthInfo old new is bare idle = waits_same law old new bare ∙ idle
  ended_idle law Final old new is bare idle = absurd (cc (is))

  pub client_ended : (law : IsContext c) (first old new : ClientView C) (past : List Turn) (d : TsRequest) (reply : TsRequest) →
      ClientFollows c first old past → ClientTurn c old d (outcome.Final reply) new →
      ClientFollows c first new (client_turn c d (outcome.Final reply) new ∷ past)
  client_ended law first old new past d reply follows turn = record {
    ran = client_turned law first old new past d (outcome.Final reply) follows turn;
    state = turn.moves.state;
    noted = turn.moves.noted_going ∙ noted_of first old new (client_turn c d (outcome.Final reply) new) past follows turn.moves.same;
    begun = turn.moves.begun;
    idle = ended_idle law old.state old.context new.context turn.turn.shown.reply.state turn.moves.bare follows.idle;
    going = (tt, follows.going);
  }

  -- a client that was left waiting for its KDC has made the turns before
  pub client_underway : (law : IsContext c) (first old now : ClientView C) (past : List Turn) (d : TsRequest) →
      ClientFollows c first old past → IsUnderway c old d now → ClientRan c first now past
  client_underway law first old now past d follows way =
      let counted = counts_on first old past no_acts now.context follows way.ready.unspent.counts in
      record {
        same = way.ready.same ∙ follows.ran.same;
        made = counted.0 ∙ add-zero _ ∙ follows.ran.made;
        opened = counted.1 ∙ add-zero _ ∙ follows.ran.opened;
        each = each_over law (client_end old) (client_end now) past way.ready.same
            (touched_by (client_end old) old.state past (SameBut c old.context now.context) follows.state follows.ran.each follows.going
            way.ready.unspent.bare)
            follows.ran.each;
        others = others_go past follows.going;
      }

  pub client_fresh : (first : ClientView C) → IsFreshClient first → ClientFollows c first first []
  client_fresh first fresh = record {
    ran = none_ran c (EachClientTurn c (client_end first)) OthersGoOn (client_end first) fresh.context tt tt;
    state = fresh.state;
    noted = fresh.noted;
    begun = fresh.context;
    idle = rw fresh.context refl;
    going = tt;
  }
