-- The turns of a server's authentication in an undisturbed exchange that send a token. Each but the
-- last asks for more, and the last asks for the client's proof if that has not come yet.
use Rattle.std.proofs.Common.{◌≡◌, ◌<◌, ◌-◌, ◌^◌, ◌≢◌, ℕ, true, false, Option, None, Some, IsSome, refl, ap, sym, ◌∙◌, subst}
use Rattle.sspi_types.specs.declared.error_kind.ErrorKind.{ErrorKind}
use Rattle.sspi_types.specs.declared.error_kind.ErrorKind.TheVariants.{MessageAltered, DowngradeDetected, InsufficientMemory}
use Rattle.sspi_types.specs.declared.security_status.SecurityStatus.{SecurityStatus}
use Rattle.sspi_types.specs.declared.security_status.SecurityStatus.TheVariants as statuses
use Rattle.sspi_names.specs.declared.credentials.CredentialsBuffers.{CredentialsBuffers}
use Rattle.sspi_tsreq.specs.declared.request.TsRequest.{TsRequest}
use Rattle.sspi_mech.specs.declared.step.Step.{Step}
use Rattle.sspi_mech.specs.Context.{IsContext}
use Rattle.sspi_mech.specs.Meaning.{Meaning}
use Rattle.sspi_credssp.specs.declared.state.CredSspState.{CredSspState}
use Rattle.sspi_credssp.specs.declared.state.CredSspState.TheVariants.{NegoToken}
use Rattle.sspi_credssp.specs.Acts.{sealings_by, unsealings_by, sealings_in, unsealings_in, AddsActs, CountsEachAct}
use Rattle.sspi_credssp.specs.Context.{ContextSetting}
use Rattle.sspi_credssp.specs.Proxy.{ProxyMeaning}
use Rattle.sspi_credssp.specs.Ends.{ServerSettings, ServerView}
use Rattle.sspi_credssp.specs.ServerCause.{ServerCause, MakeCause, StateCause, NegoCause, OverCause}
use Rattle.sspi_credssp.specs.ServerTurn.{Knowing, Unknown, Completed, DoneStep, HasCome, known_at, ServerTurn, server_frame}
use Rattle.sspi_credssp.specs.ServerTurn.{server_turn}
use Rattle.sspi_credssp.specs.Turn.{IsOver, MayCheck, ShowsNegoBack, ShowsOver, ShowsServerActs, ShowsStateBack, server_shown, ServerFrame}
use Rattle.sspi_credssp.specs.Noted.{noted_with, OrMemory}
use Rattle.sspi_credssp.specs.declared.turn.Outcome.{Outcome}
use Rattle.sspi_credssp.specs.declared.turn.Outcome.TheVariants as outcome
use Rattle.sspi_delegate.specs.History.{ServerMakes}
use Rattle.sspi_credssp.proofs.Counting.{counted_by}
use Rattle.sspi_completeness.proofs.Accepting.{Takes, Left, come_at, refused_at}
use Rattle.sspi_completeness.proofs.Ends.{Comes, is_false, stops_later, made_past, differs_never, Holds, unused_in, ServerIs}
use Rattle.sspi_completeness.proofs.Replies.{token_back_is}
use Rattle.sspi_credssp.specs.declared.turn.Turn.{Turn}

module _ {C P : Type 0} (c : Meaning ContextSetting C) (laws : IsContext c) (p : ProxyMeaning P) where
  abbrev View : Type 0
  View = ServerView C P

  -- a turn of the authentication seals and opens no credentials
  pub nego_acts : (frame : ServerFrame C) (t : Turn) → ShowsServerActs (server_shown frame) t → frame.state ≡ NegoToken →
      (t.acts.sealed ≡ false) × (t.acts.opened ≡ false)
  nego_acts frame t acts nego = (acts.sealed, is_false t.acts.opened (λ was. let s = (acts.opened was).0 in cc (s, nego)))

  -- a server whose peer's version is pinned takes that version again
  pub server_now : (b mid : View) (w : ℕ) (state : CredSspState) (sealed unsealed : ℕ) → mid.settings ≡ b.settings → mid.state ≡ state →
      mid.noted ≡ Some w → sealings_in c mid.context ≡ sealed → unsealings_in c mid.context ≡ unsealed →
      ServerIs c b mid w state sealed unsealed
  server_now b mid w state sealed unsealed same state_is noted sealed_is unsealed_is = record {
    same = same;
    state_is = state_is;
    fits = rw noted (differs_never w);
    young = rw noted refl;
    notes = rw noted refl;
    sealed_is = sealed_is;
    unsealed_is = unsealed_is;
  }

  -- a refusal comes after what a turn checks first
  pub cause_past : (b old mid : View) (w : ℕ) (d : TsRequest) (state : CredSspState) (sealed unsealed : ℕ) (kind : ErrorKind) →
      ServerIs c b old w state sealed unsealed → d.version ≡ w →
      (old.context ≡ None → MakeCause c p b.settings.mode old.proxy mid.proxy kind → ⊥) →
      ServerCause c p old d mid kind → kind ≢ InsufficientMemory → StateCause c p state old d mid kind
  cause_past b old mid w d state sealed unsealed kind is version begins cause others =
      let never : old.context ≡ None → OrMemory kind (MakeCause c p old.settings.mode old.proxy mid.proxy kind) → ⊥ =
      λ none h. begins none (subst (λ (s : ServerSettings). MakeCause c p s.mode old.proxy mid.proxy kind) is.same (h others)) in
      let past : OrMemory kind (StateCause c p old.state old d mid kind) =
      stops_later _ MessageAltered kind _ (rw version is.fits)
      (stops_later _ DowngradeDetected kind _ (rw version is.young) (made_past old.context mid.context _ _ never cause)) in
      subst (λ (s : CredSspState). StateCause c p s old d mid kind) is.state_is (past others)

  over_done : (st : SecurityStatus) (old : View) (d : TsRequest) (mid : View) → IsOver (Some st) → DoneStep c p (Some st) old d mid →
      HasCome c p Completed st old d mid
  over_done statuses.Ok old d mid over h = h
  over_done statuses.ContinueNeeded old d mid over h = absurd over
  over_done statuses.CompleteNeeded old d mid over h = h
  over_done statuses.CompleteAndContinue old d mid over h = absurd over
  over_done statuses.LocalLogon old d mid over h = absurd over
  over_done statuses.ContextExpired old d mid over h = absurd over
  over_done statuses.IncompleteCredentials old d mid over h = absurd over
  over_done statuses.Renegotiate old d mid over h = absurd over
  over_done statuses.NoLsaContext old d mid over h = absurd over

  pub over_answer : (st : SecurityStatus) (f : ServerFrame C) (t : Turn) (r : TsRequest) → IsOver (Some st) →
      ShowsNegoBack (server_shown f) t (Some st) r → ShowsOver (server_shown f) t t.delivered.pub_key_auth r
  over_answer statuses.Ok f t r over h = h
  over_answer statuses.ContinueNeeded f t r over h = absurd over
  over_answer statuses.CompleteNeeded f t r over h = h
  over_answer statuses.CompleteAndContinue f t r over h = absurd over
  over_answer statuses.LocalLogon f t r over h = absurd over
  over_answer statuses.ContextExpired f t r over h = absurd over
  over_answer statuses.IncompleteCredentials f t r over h = absurd over
  over_answer statuses.Renegotiate f t r over h = absurd over
  over_answer statuses.NoLsaContext f t r over h = absurd over

  pub over_cause : (st : SecurityStatus) (old : View) (d : TsRequest) (mid : View) (kind : ErrorKind) → IsOver (Some st) →
      NegoCause c p (Some st) old d mid kind → OverCause c p st old d mid kind
  over_cause statuses.Ok old d mid kind over h = h
  over_cause statuses.ContinueNeeded old d mid kind over h = absurd over
  over_cause statuses.CompleteNeeded old d mid kind over h = h
  over_cause statuses.CompleteAndContinue old d mid kind over h = absurd over
  over_cause statuses.LocalLogon old d mid kind over h = absurd over
  over_cause statuses.ContextExpired old d mid kind over h = absurd over
  over_cause statuses.IncompleteCredentials old d mid kind over h = absurd over
  over_cause statuses.Renegotiate old d mid kind over h = absurd over
  over_cause statuses.NoLsaContext old d mid kind over h = absurd over

  -- what a turn of the authentication is given
  pub record NegoGiven (b old : View) (w : ℕ) (d : TsRequest) (step : Step) (y : C) (handle : Option CredentialsBuffers) : Type 0 where
    pub is : ServerIs c b old w NegoToken 0 0
    pub takes : Takes c laws p old d.nego_tokens step y handle
    pub version : d.version ≡ w
    pub begins : (before now : P) (kind : ErrorKind) → p.faults now ≡ p.faults before → p.faults before < 2 ^ 64 - 1 →
        MakeCause c p b.settings.mode before now kind → ⊥

  module _ (b old : View) (w : ℕ) (d : TsRequest) (step : Step) (y : C) (handle : Option CredentialsBuffers)
      (given : NegoGiven b old w d step y handle) where
    abbrev pub Leaves : View → Knowing → Type 0
    Leaves = Left c laws p old d.nego_tokens step y handle given.takes

    pub counts_on : (mid : View) → CountsEachAct c old.state old.context mid.acts mid.context → AddsActs c old.context mid.acts mid.context
    counts_on mid = counted_by c old.state old.context mid.acts mid.context
        (λ nego. unused_in c old.context given.is.sealed_is given.is.unsealed_is)

    pub noted_now : (mid : View) (m : C) → mid.context ≡ Some m →
        (IsSome mid.context → mid.noted ≡ noted_with old.settings.least old.noted d.version) → mid.noted ≡ Some w
    noted_now mid m there noted = noted (rw there refl) ∙ ap (noted_with old.settings.least old.noted) given.version ∙ given.is.notes

    out : (mid : View) (status : Option SecurityStatus) (r : TsRequest) →
        ShowsNegoBack (server_shown (server_frame c old mid)) (server_turn c d (outcome.Reply r) mid) status r →
        DoneStep c p status old d mid → status ≡ Some step.status
    out mid None r h done = absurd h
    out mid (Some st) r h done = ap Some (come_at c laws p old d.nego_tokens step y handle given.takes mid (known_at c p st) st done).0

    -- the answer and the step of a turn that replied
    pub record Replies (mid : View) (r : TsRequest) : Type 0 where
      pub status_is : mid.acts.status ≡ Some step.status
      pub answer : ShowsNegoBack (server_shown (server_frame c old mid)) (server_turn c d (outcome.Reply r) mid) (Some step.status) r
      pub done : DoneStep c p (Some step.status) old d mid

    pub replies : (mid : View) (r : TsRequest) → ServerMakes c p old d (outcome.Reply r) mid → Replies mid r
    replies mid r makes =
        let frame = server_frame c old mid in
        let t = server_turn c d (outcome.Reply r) mid in
        let answer = subst (λ (s : CredSspState). ShowsStateBack (server_shown frame) t s r) given.is.state_is
        makes.turn.turn.shown.reply in
        let status = out mid mid.acts.status r answer makes.step in
        record {
          status_is = status;
          answer = subst (λ (x : Option SecurityStatus). ShowsNegoBack (server_shown frame) t x r) status answer;
          done = subst (λ (x : Option SecurityStatus). DoneStep c p x old d mid) status makes.step;
        }

    pub over_left : (mid : View) → IsOver (Some step.status) → DoneStep c p (Some step.status) old d mid → Leaves mid Completed
    over_left mid over done = (come_at c laws p old d.nego_tokens step y handle given.takes mid Completed step.status
        (over_done step.status old d mid over done)).1

    pub never_finishes : (mid : View) → ServerMakes c p old d outcome.Finished mid → ⊥
    never_finishes mid makes = let auth = makes.1.turn.0.turn.shown.reply.0 in let nego = given.is.state_is in cc

    began : (status : Option SecurityStatus) (mid : View) (kind : ErrorKind) → mid.acts.status ≡ status →
        (IsSome mid.acts.status → mid.acts.negotiated ≡ true) →
        NegoCause c p status old d mid kind → mid.acts.negotiated ≡ true
    began None mid kind is answered h = h
    began (Some status) mid kind is answered h = answered (rw is refl)

    -- what a refusal rests on
    pub record Refusal (mid : View) (kind : ErrorKind) (reply : Option TsRequest) : Type 0 where
      pub turn : ServerTurn c old d (outcome.Refused kind reply) mid
      pub cause : NegoCause c p (Some step.status) old d mid kind

    pub refusal : (mid : View) (kind : ErrorKind) (reply : Option TsRequest) → p.faults mid.proxy ≡ p.faults old.proxy →
        p.faults old.proxy < 2 ^ 64 - 1 →
        ServerMakes c p old d (outcome.Refused kind reply) mid → kind ≢ InsufficientMemory → Refusal mid kind reply
    refusal mid kind reply still calm makes others =
        let error = makes.0 in
        let turn = makes.2.turn in
        let others2 : error.error_type ≢ InsufficientMemory = λ memory. others (sym makes.1 ∙ memory) in
        let cause = cause_past b old mid w d NegoToken 0 0 error.error_type given.is given.version
        (λ none h. given.begins old.proxy mid.proxy error.error_type still calm h) makes.2.cause.kind others2 in
        let was = began mid.acts.status mid error.error_type refl turn.turn.shown.acts.answered cause in
        let status = refused_at c laws p old d.nego_tokens step y handle given.takes mid mid.acts.status mid.acts.negotiated error was
        others2 makes.2.step in
        record {
          turn = subst (λ (e : ErrorKind). ServerTurn c old d (outcome.Refused e reply) mid) makes.1 turn;
          cause = subst (λ (x : ErrorKind). NegoCause c p (Some step.status) old d mid x) makes.1
              (subst (λ (x : Option SecurityStatus). NegoCause c p x old d mid error.error_type) status cause);
        }

    -- ---- a token, and more to come

    token_replied : (mid : View) (r : TsRequest) → step.status ≡ statuses.ContinueNeeded → ServerMakes c p old d (outcome.Reply r) mid →
        (r ≡ record d { version = b.settings.version; nego_tokens = Some step.output }) × ServerIs c b mid w NegoToken 0 0 ×
        Holds c mid.context y × (mid.handle ≡ handle)
    token_replied mid r goes makes =
        let turn = makes.turn in
        let s = replies mid r makes in
        let answer = subst (λ (x : SecurityStatus). ShowsNegoBack (server_shown (server_frame c old mid))
        (server_turn c d (outcome.Reply r) mid) (Some x) r) goes s.answer in
        let done = subst (λ (x : SecurityStatus). DoneStep c p (Some x) old d mid) goes s.done in
        let left = (come_at c laws p old d.nego_tokens step y handle given.takes mid Unknown statuses.ContinueNeeded done).1 in
        let status : mid.acts.status ≡ Some statuses.ContinueNeeded = s.status_is ∙ ap Some goes in
        let quiet = nego_acts (server_frame c old mid) (server_turn c d (outcome.Reply r) mid) turn.turn.shown.acts given.is.state_is in
        let unproved : mid.acts.proved ≡ false = answer.unproved in
        let unchecked : mid.acts.checked ≡ false = is_false mid.acts.checked (λ was.
        subst (λ (x : Option SecurityStatus). MayCheck NegoToken x) status
        (subst (λ (x : CredSspState). MayCheck x mid.acts.status) given.is.state_is (turn.turn.shown.acts.checked was).0)) in
        let none_sealed : sealings_by mid.acts ≡ 0 = rw (unproved, quiet.0) refl in
        let none_opened : unsealings_by mid.acts ≡ 0 = rw (unchecked, quiet.1) refl in
        let same = turn.moves.same ∙ given.is.same in (
          token_back_is (server_frame c old mid) (server_turn c d (outcome.Reply r) mid) r answer ∙
              (rw (same, left.output_is) refl),
          server_now b mid w NegoToken 0 0 same (turn.moves.state ∙ (rw (given.is.state_is, unproved, status) refl))
              (noted_now mid left.held left.there turn.moves.noted)
              ((counts_on mid turn.moves.counts).0 ∙ (rw (given.is.sealed_is, none_sealed) refl))
              ((counts_on mid turn.moves.counts).1 ∙ (rw (given.is.unsealed_is, none_opened) refl)),
          record { held = left.held; there = left.there; same = left.comes },
          left.handle_is,
        )

    pub token_turn : (out : Outcome) (mid : View) → step.status ≡ statuses.ContinueNeeded → p.faults mid.proxy ≡ p.faults old.proxy →
        p.faults old.proxy < 2 ^ 64 - 1 → ServerMakes c p old d out mid →
        Comes out (λ r. (r ≡ record d { version = b.settings.version; nego_tokens = Some step.output }) × ServerIs c b mid w NegoToken 0 0 ×
        Holds c mid.context y × (mid.handle ≡ handle))
    token_turn (outcome.Reply r) mid goes still calm makes = token_replied mid r goes makes
    token_turn (outcome.Final r) mid goes still calm makes = absurd makes
    token_turn outcome.Finished mid goes still calm makes = never_finishes mid makes
    token_turn (outcome.Refused kind reply) mid goes still calm makes =
        λ others. subst (λ (x : SecurityStatus). NegoCause c p (Some x) old d mid kind) goes
        (refusal mid kind reply still calm makes others).cause
