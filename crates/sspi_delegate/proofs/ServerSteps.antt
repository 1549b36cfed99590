-- One more turn of a server: what holds of its turns so far holds of them with this one.
use Rattle.std.proofs.Common.{◌≡◌, ℕ, ◌+◌, Bool, true, false, ◌&&◌, List, [], ◌∷◌, sym, ◌∙◌, ap, subst, refl, Option, None, Some}
use Rattle.std.proofs.Common.{IsSome, if◌then◌else◌}
use Rattle.sspi_types.specs.declared.security_status.SecurityStatus.{SecurityStatus}
use Rattle.sspi_types.specs.declared.security_status.SecurityStatus.TheVariants as statuses
use Rattle.sspi_mech.specs.Context.{IsContext}
use Rattle.sspi_mech.specs.Meaning.{Meaning}
use Rattle.sspi_tsreq.specs.declared.request.TsRequest.{TsRequest}
use Rattle.sspi_credssp.specs.declared.acts.Acts.{Acts}
use Rattle.sspi_credssp.specs.declared.state.CredSspState.{CredSspState}
use Rattle.sspi_credssp.specs.declared.state.CredSspState.TheVariants.{NegoToken, PubKeyInfo, AuthInfo, Final}
use Rattle.sspi_credssp.specs.Acts.{sealings_by, unsealings_by, sealings_in, unsealings_in, AddsActs, CountsEachAct, SameBut}
use Rattle.sspi_credssp.specs.Context.{ContextSetting}
use Rattle.sspi_credssp.specs.Noted.{noted_with}
use Rattle.sspi_credssp.specs.Ends.{ServerSettings, ServerView, IsFreshServer}
use Rattle.sspi_credssp.specs.ServerTurn.{ServerTurn, server_frame, server_turn, after_reply}
use Rattle.sspi_credssp.specs.Turn.{IsOver, MayCheck, ShowsAnswer, ShowsNegoBack, ShowsServerActs, ShowsStateBack, server_shown}
use Rattle.sspi_credssp.specs.Turn.{ServerFrame, UnlessRefused, FitsNoted, OnceNegotiated}
use Rattle.sspi_delegate.specs.Turns.{made_in, opened_in, is_replied, is_finished, any_proved, any_finished, OthersUnrefused, IsUnrefused}
use Rattle.sspi_delegate.specs.Turns.{NoneRefused}
use Rattle.sspi_delegate.specs.Turns.{ServerEnd, server_end, is_over, any_over, server_state, server_noted, server_frame_at}
use Rattle.sspi_delegate.specs.Turns.{EachServerTurn, ServerRan, ServerFollows}
use Rattle.sspi_credssp.proofs.Counting.{counted_by}
use Rattle.sspi_delegate.proofs.EndSteps.{none_ran, IsQuiet, AllQuiet, or_false, or_not, is_false, quiet_made, unused_in, same_but, Touched}
use Rattle.sspi_delegate.proofs.EndSteps.{touched, untouched, unless_given, unless_map, made_by_proof, opened_by_check}
use Rattle.sspi_delegate.proofs.ServerOver.{OnceRefused, server_over}
use Rattle.sspi_credssp.specs.declared.turn.Outcome.{Outcome}
use Rattle.sspi_credssp.specs.declared.turn.Outcome.TheVariants as outcome
use Rattle.sspi_credssp.specs.declared.turn.Turn.{Turn}

-- ---- the state

state_nego : (finished proved over : Bool) →
    (if finished then Final else (if proved then AuthInfo else (if over then PubKeyInfo else NegoToken))) ≡ NegoToken →
    (finished ≡ false) × (proved ≡ false) × (over ≡ false)
state_nego true proved over h = absurd (cc (h))
state_nego false true over h = absurd (cc (h))
state_nego false false true h = absurd (cc (h))
state_nego false false false h = (refl, refl, refl)

nego_state : (past : List Turn) → any_finished past ≡ false → any_proved past ≡ false → any_over past ≡ false →
    server_state past ≡ NegoToken
nego_state past unfinished unproved going = rw (unfinished, unproved, going) refl

-- ---- the version that is pinned

noted_kept : (least : ℕ) (noted : Option ℕ) (version : ℕ) → IsSome noted → noted_with least noted version ≡ noted
noted_kept least None version some = absurd (cc (some))
noted_kept least (Some noted) version some = refl

unrefused_noted : (noted : Option ℕ) (version : ℕ) (out : Outcome) → IsUnrefused out → UnlessRefused out (FitsNoted true noted version) →
    IsSome noted
unrefused_noted (Some v) version out went fits = refl
unrefused_noted None version (outcome.Reply reply) went fits = absurd fits
unrefused_noted None version (outcome.Final reply) went fits = absurd fits
unrefused_noted None version outcome.Finished went fits = absurd fits
unrefused_noted None version (outcome.Refused kind reply) went fits = absurd went

module _ {C : Type 0} (c : Meaning ContextSetting C) where
  -- each turn that was not refused has pinned a version
  pub noted_by_one : (e : ServerEnd C) (t : Turn) (past : List Turn) → EachServerTurn c e (t ∷ past) → NoneRefused (t ∷ past) →
      IsSome (server_noted e.settings.least (t ∷ past))
  noted_by_one e t past each going = unrefused_noted (server_noted e.settings.least (t ∷ past)) t.delivered.version t.outcome going.0
      each.0.shown.version

  noted_more : (e : ServerEnd C) (noted : Option ℕ) (t : Turn) (past : List Turn) → noted ≡ server_noted e.settings.least past →
      EachServerTurn c e past → NoneRefused past →
      noted_with e.settings.least noted t.delivered.version ≡ server_noted e.settings.least (t ∷ past)
  noted_more e noted t [] is each going = rw is refl
  noted_more e noted t (u ∷ past) is each going = noted_kept e.settings.least noted t.delivered.version
      (rw is (noted_by_one e u past each going)) ∙ is

  -- ---- turns that came before the end of the authentication

  -- while tokens are exchanged, nothing is checked, proved or opened
  quiet_token : (f : ServerFrame C) (t : Turn) → ShowsServerActs (server_shown f) t → f.state ≡ NegoToken → (IsOver t.acts.status → ⊥) →
      t.acts.proved ≡ false → IsQuiet t.acts
  quiet_token f t acts nego going unproved = record {
    proved = unproved;
    checked = is_false t.acts.checked (λ was. going (subst (λ (s : CredSspState). MayCheck s t.acts.status) nego (acts.checked was).0));
    sealed = acts.sealed;
    opened = is_false t.acts.opened (λ was. let s = (acts.opened was).0 in absurd (cc (s, nego)));
  }

  quiet_nego : (f : ServerFrame C) (t : Turn) (status : Option SecurityStatus) (reply : TsRequest) → t.acts.status ≡ status →
      is_over status ≡ false →
      ShowsNegoBack (server_shown f) t status reply → (IsOver t.acts.status → ⊥) × (t.acts.proved ≡ false)
  quiet_nego f t None reply is over h = absurd h
  quiet_nego f t (Some statuses.ContinueNeeded) reply is over h = (rw is (λ x. x), h.unproved)
  quiet_nego f t (Some statuses.CompleteNeeded) reply is over h = absurd (cc (over))
  quiet_nego f t (Some statuses.Ok) reply is over h = absurd (cc (over))
  quiet_nego f t (Some statuses.CompleteAndContinue) reply is over h = absurd h
  quiet_nego f t (Some statuses.LocalLogon) reply is over h = absurd h
  quiet_nego f t (Some statuses.ContextExpired) reply is over h = absurd h
  quiet_nego f t (Some statuses.IncompleteCredentials) reply is over h = absurd h
  quiet_nego f t (Some statuses.Renegotiate) reply is over h = absurd h
  quiet_nego f t (Some statuses.NoLsaContext) reply is over h = absurd h

  quiet_turn : (f : ServerFrame C) (t : Turn) (out : Outcome) → ShowsServerActs (server_shown f) t → f.state ≡ NegoToken →
      IsUnrefused out → ShowsAnswer (server_shown f) t out →
      is_replied out && is_over t.acts.status ≡ false → IsQuiet t.acts
  quiet_turn f t (outcome.Reply reply) acts nego went h over =
      let k = quiet_nego f t t.acts.status reply refl over (subst
      (λ (s : CredSspState). ShowsStateBack (server_shown f) t s reply) nego h) in
      quiet_token f t acts nego k.0 k.1
  quiet_turn f t (outcome.Final reply) acts nego went h over = absurd h
  quiet_turn f t outcome.Finished acts nego went h over = let s = h.0 in absurd (cc (s, nego))
  quiet_turn f t (outcome.Refused kind reply) acts nego went h over = absurd went

  all_quiet : (e : ServerEnd C) (past : List Turn) → EachServerTurn c e past → NoneRefused past → any_finished past ≡ false →
      any_proved past ≡ false →
      any_over past ≡ false → AllQuiet past
  all_quiet e [] each went unfinished unproved going = tt
  all_quiet e (t ∷ past) each went unfinished unproved going =
      let p = or_false (is_finished t.outcome) (any_finished past) unfinished in
      let q = or_false (is_replied t.outcome && t.acts.proved) (any_proved past) unproved in
      let r = or_false (is_replied t.outcome && is_over t.acts.status) (any_over past) going in (
        quiet_turn (server_frame_at e past t) t t.outcome each.0.shown.acts (nego_state past p.1 q.1 r.1) went.0 each.0.shown.reply r.0,
        all_quiet e past each.1 went.1 p.1 q.1 r.1,
      )

  -- ---- the turns before, over the context that the newest one left

  went_once : (out : Outcome) (P : Type 0) → IsUnrefused out → OnceRefused out P
  went_once (outcome.Reply reply) P went = tt
  went_once (outcome.Final reply) P went = tt
  went_once outcome.Finished P went = tt
  went_once (outcome.Refused kind reply) P went = absurd went

  each_over : (law : IsContext c) (e e2 : ServerEnd C) (past : List Turn) → e2.settings ≡ e.settings → NoneRefused past →
      Touched (SameBut c e.context e2.context) past →
      EachServerTurn c e past → EachServerTurn c e2 past
  each_over law e e2 [] same went touch each = tt
  each_over law e e2 (t ∷ past) same went touch each = (
    server_over c law (server_frame_at e past t) (server_frame_at e2 past t) t (record {
      settings = same;
      state = refl;
      noted = unless_given t.outcome _ (ap (λ (s : ServerSettings). server_noted s.least (t ∷ past)) same);
      proved = λ was. (ap (λ (s : ServerSettings). server_noted s.least (t ∷ past)) same, refl, refl, touch.0 was);
      checked = λ was. ap (λ (s : ServerSettings). server_noted s.least (t ∷ past)) same;
      refused = went_once t.outcome _ went.0;
    }) each.0,
    each_over law e e2 past same went.1 touch.2 each.1,
  )

  -- a turn that opens the credentials checks no proof
  checked_alone : (f : ServerFrame C) (t : Turn) → ShowsServerActs (server_shown f) t → t.acts.checked ≡ true → t.acts.opened ≡ false
  checked_alone f t acts was = is_false t.acts.opened (λ opened.
      subst (λ (s : CredSspState). MayCheck s t.acts.status) (acts.opened opened).0 (acts.checked was).0)

  once : (out : Outcome) (Q : Type 0) → Q → OnceRefused out Q
  once (outcome.Reply reply) Q h = tt
  once (outcome.Final reply) Q h = tt
  once outcome.Finished Q h = tt
  once (outcome.Refused kind reply) Q h = h

  nego_moves : (status : Option SecurityStatus) (proved : Bool) →
      (is_over status ≡ false → (status ≡ Some statuses.ContinueNeeded) × (proved ≡ false)) →
      after_reply NegoToken proved status ≡ (if proved then AuthInfo else (if is_over status then PubKeyInfo else NegoToken))
  nego_moves None true h = refl
  nego_moves None false h = let k = (h refl).0 in absurd (cc (k))
  nego_moves (Some statuses.Ok) true h = refl
  nego_moves (Some statuses.Ok) false h = refl
  nego_moves (Some statuses.CompleteNeeded) true h = refl
  nego_moves (Some statuses.CompleteNeeded) false h = refl
  nego_moves (Some statuses.ContinueNeeded) true h = refl
  nego_moves (Some statuses.ContinueNeeded) false h = refl
  nego_moves (Some statuses.CompleteAndContinue) proved h = let k = (h refl).0 in absurd (cc (k))
  nego_moves (Some statuses.LocalLogon) proved h = let k = (h refl).0 in absurd (cc (k))
  nego_moves (Some statuses.ContextExpired) proved h = let k = (h refl).0 in absurd (cc (k))
  nego_moves (Some statuses.IncompleteCredentials) proved h = let k = (h refl).0 in absurd (cc (k))
  nego_moves (Some statuses.Renegotiate) proved h = let k = (h refl).0 in absurd (cc (k))
  nego_moves (Some statuses.NoLsaContext) proved h = let k = (h refl).0 in absurd (cc (k))

  nego_status : (f : ServerFrame C) (t : Turn) (status : Option SecurityStatus) (reply : TsRequest) →
      ShowsNegoBack (server_shown f) t status reply → is_over status ≡ false →
      (status ≡ Some statuses.ContinueNeeded) × (t.acts.proved ≡ false)
  nego_status f t None reply h over = absurd h
  nego_status f t (Some statuses.ContinueNeeded) reply h over = (refl, h.unproved)
  nego_status f t (Some statuses.CompleteNeeded) reply h over = absurd (cc (over))
  nego_status f t (Some statuses.Ok) reply h over = absurd (cc (over))
  nego_status f t (Some statuses.CompleteAndContinue) reply h over = absurd h
  nego_status f t (Some statuses.LocalLogon) reply h over = absurd h
  nego_status f t (Some statuses.ContextExpired) reply h over = absurd h
  nego_status f t (Some statuses.IncompleteCredentials) reply h over = absurd h
  nego_status f t (Some statuses.Renegotiate) reply h over = absurd h
  nego_status f t (Some statuses.NoLsaContext) reply h over = absurd h

  state_key : (finished proved over : Bool) →
      (if finished then Final else (if proved then AuthInfo else (if over then PubKeyInfo else NegoToken))) ≡ PubKeyInfo → finished ≡ false
  state_key true proved over h = absurd (cc (h))
  state_key false proved over h = refl

  state_moved : (f : ServerFrame C) (t : Turn) (past : List Turn) (state : CredSspState) (reply : TsRequest) → state ≡ server_state past →
      t.outcome ≡ outcome.Reply reply → ShowsStateBack (server_shown f) t state reply →
      after_reply state t.acts.proved t.acts.status ≡ server_state (t ∷ past)
  state_moved f t past NegoToken reply is out h =
      let s = state_nego (any_finished past) (any_proved past) (any_over past) (sym is) in
      rw (out, s.0, s.1, s.2, or_not t.acts.proved, or_not (is_over t.acts.status))
      (nego_moves t.acts.status t.acts.proved (nego_status f t t.acts.status reply h))
  state_moved f t past PubKeyInfo reply is out h =
      let s = state_key (any_finished past) (any_proved past) (any_over past) (sym is) in
      rw (out, s, h.proved) refl
  state_moved f t past AuthInfo reply is out h = absurd h
  state_moved f t past Final reply is out h = absurd h

  touched_by : (e : ServerEnd C) (state : CredSspState) (past : List Turn) (Q : Type 0) → state ≡ server_state past →
      EachServerTurn c e past →
      NoneRefused past → OnceNegotiated state Q → Touched Q past
  touched_by e NegoToken past Q is each went bare =
      let s = state_nego (any_finished past) (any_proved past) (any_over past) (sym is) in
      untouched Q past (all_quiet e past each went s.0 s.1 s.2)
  touched_by e PubKeyInfo past Q is each went bare = touched Q past bare
  touched_by e AuthInfo past Q is each went bare = touched Q past bare
  touched_by e Final past Q is each went bare = touched Q past bare

  module _ {P : Type 0} where
    -- nothing was sealed or opened in the authentication, so the effects add to what was counted
    counts_on : (first old : ServerView C P) (past : List Turn) (acts : Acts) (now : Option C) → ServerFollows c first old past →
        CountsEachAct c old.state old.context acts now → AddsActs c old.context acts now
    counts_on first old past acts now follows counts = counted_by c old.state old.context acts now
        (λ nego.
        let s = state_nego (any_finished past) (any_proved past) (any_over past) (sym follows.state ∙ nego) in
        let none = quiet_made past (all_quiet (server_end old) past follows.ran.each follows.unrefused s.0 s.1 s.2) in
        unused_in c old.context (follows.ran.made ∙ none.0) (follows.ran.opened ∙ none.1))
        counts

    -- ---- one more turn

    noted_of : (first old new : ServerView C P) (t : Turn) (past : List Turn) → ServerFollows c first old past →
        new.settings ≡ old.settings →
        noted_with old.settings.least old.noted t.delivered.version ≡ server_noted new.settings.least (t ∷ past)
    noted_of first old new t past follows same =
        noted_more (server_end old) old.noted t past follows.noted follows.ran.each follows.unrefused
        ∙ sym (ap (λ (s : ServerSettings). server_noted s.least (t ∷ past)) same)

    pub server_turned : (law : IsContext c) (first old new : ServerView C P) (past : List Turn) (d : TsRequest) (out : Outcome) →
        ServerFollows c first old past → ServerTurn c old d out new → ServerRan c first new (server_turn c d out new ∷ past)
    server_turned law first old new past d out follows turn =
        let t : Turn = server_turn c d out new in
        let counted = counts_on first old past new.acts new.context follows turn.moves.counts in
        let made : sealings_in c new.context ≡ made_in past + sealings_by new.acts =
        counted.0 ∙ ap (λ (n : ℕ). n + sealings_by new.acts) follows.ran.made in
        let opened : unsealings_in c new.context ≡ opened_in past + unsealings_by new.acts =
        counted.1 ∙ ap (λ (n : ℕ). n + unsealings_by new.acts) follows.ran.opened in
        let noted : noted_with old.settings.least old.noted d.version ≡ server_noted new.settings.least (t ∷ past) =
        noted_of first old new t past follows turn.moves.same in
        record {
          same = turn.moves.same ∙ follows.ran.same;
          made = made;
          opened = opened;
          each = (
            server_over c law (server_frame c old new) (server_frame_at (server_end new) past t) t (record {
              settings = refl;
              state = sym follows.state;
              noted = unless_map out _ _ (λ some. sym (turn.moves.noted some ∙ noted)) turn.moves.begun;
              proved = λ was. (
                sym (turn.moves.noted_proved was ∙ noted),
                made_by_proof new.acts (made_in past) (sealings_in c new.context) made was turn.turn.shown.acts.sealed,
                opened_by_check new.acts (opened_in past) (unsealings_in c new.context) opened (turn.turn.shown.acts.proved was).0
                    (checked_alone (server_frame c old new) t turn.turn.shown.acts (turn.turn.shown.acts.proved was).0),
                same_but c new.context,
              );
              checked = λ was. sym (turn.moves.noted_checked was ∙ noted);
              refused = once out _ (refl, λ some. sym (turn.moves.noted some ∙ noted));
            }) turn.turn,
            each_over law (server_end old) (server_end new) past turn.moves.same follows.unrefused
                (touched_by (server_end old) old.state past (SameBut c old.context new.context) follows.state follows.ran.each
                follows.unrefused turn.moves.bare)
                follows.ran.each,
          );
          others = follows.unrefused;
        }

    pub server_follows : (law : IsContext c) (first old new : ServerView C P) (past : List Turn) (d : TsRequest) (reply : TsRequest) →
        ServerFollows c first old past → ServerTurn c old d (outcome.Reply reply) new →
        ServerFollows c first new (server_turn c d (outcome.Reply reply) new ∷ past)
    server_follows law first old new past d reply follows turn = record {
      ran = server_turned law first old new past d (outcome.Reply reply) follows turn;
      state = turn.moves.state
          ∙ state_moved (server_frame c old new) (server_turn c d (outcome.Reply reply) new) past old.state reply follows.state refl
          turn.turn.shown.reply;
      noted = turn.moves.noted turn.moves.begun ∙ noted_of first old new
          (server_turn c d (outcome.Reply reply) new) past follows turn.moves.same;
      unrefused = (tt, follows.unrefused);
    }

    pub server_finished : (law : IsContext c) (first old new : ServerView C P) (past : List Turn) (d : TsRequest) →
        ServerFollows c first old past → ServerTurn c old d outcome.Finished new →
        ServerFollows c first new (server_turn c d outcome.Finished new ∷ past)
    server_finished law first old new past d follows turn = record {
      ran = server_turned law first old new past d outcome.Finished follows turn;
      state = turn.moves.state;
      noted = turn.moves.noted turn.moves.begun ∙ noted_of first old new
          (server_turn c d outcome.Finished new) past follows turn.moves.same;
      unrefused = (tt, follows.unrefused);
    }

    pub server_fresh : (first : ServerView C P) → IsFreshServer first → ServerFollows c first first []
    server_fresh first fresh = record {
      ran = none_ran c (EachServerTurn c (server_end first)) OthersUnrefused (server_end first) fresh.context tt tt;
      state = fresh.state;
      noted = fresh.noted;
      unrefused = tt;
    }
