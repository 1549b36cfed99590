-- A client's context, after its turns: with a MIC made or verified, it keeps the list it offered.
use Rattle.std.proofs.Common.{◌≡◌, ◌≢◌, ℕ, ◌⊎◌, inl, inr, Bool, true, false, List, [], ◌∷◌, Option, None, Some, Result, Ok, Err}
use Rattle.std.proofs.Common.{refl, sym, ◌∙◌, ap, subst, arith}
use Rattle.std.proofs.lemmas.Bool.{false≢true}
use Rattle.sspi_types.specs.declared.credential_use.CredentialUse.TheVariants.{Outbound}
use Rattle.sspi_types.specs.declared.error_kind.ErrorKind.{ErrorKind}
use Rattle.sspi_types.specs.declared.security_status.SecurityStatus.{SecurityStatus}
use Rattle.sspi_names.specs.declared.credentials.Credentials.{Credentials}
use Rattle.sspi_names.specs.declared.credentials.CredentialsBuffers.{CredentialsBuffers}
use Rattle.sspi_names.specs.declared.kdc_table.KdcEntry.{KdcEntry}
use Rattle.sspi_mech.specs.declared.step.Answer.{Answer}
use Rattle.sspi_mech.specs.declared.step.Answer.TheVariants.{Done, Ask, Refused}
use Rattle.sspi_mech.specs.declared.step.Reply.{Reply}
use Rattle.sspi_mech.specs.Answers.{OnRefused}
use Rattle.sspi_mech.specs.Calls.{StepArgs, no_counts}
use Rattle.sspi_mech.specs.Laws.{IsMechanism}
use Rattle.sspi_mech.specs.Meaning.{Meaning}
use Rattle.sspi_tsreq.specs.declared.request.TsRequest.{TsRequest}
use Rattle.sspi_mech.specs.Settings.{Setting}
use Rattle.sspi_negotiate.specs.declared.negotiate_config.NegotiateConfig.{NegotiateConfig}
use Rattle.sspi_negotiate.specs.declared.protocol.NegotiatedProtocol.{NegotiatedProtocol}
use Rattle.sspi_negotiate.specs.declared.state.NegotiateState.{NegotiateState}
use Rattle.sspi_negotiate.specs.declared.state.NegotiateState.TheVariants as states
use Rattle.sspi_negotiate.specs.declared.state.Role.TheVariants as roles
use Rattle.sspi_negotiate.specs.Does.{UnlessMemory}
use Rattle.sspi_negotiate.specs.Hand.{Origin, InPlaceOfNtlm, hand}
use Rattle.sspi_negotiate.specs.Keeps.{is_answering}
use Rattle.sspi_negotiate.specs.Negotiate.{negotiate}
use Rattle.sspi_negotiate.specs.New.{first_in_hand, IsFirst, fresh}
use Rattle.sspi_negotiate.specs.Rule.{TakenBy}
use Rattle.sspi_negotiate.specs.Values.{Negotiation, values_of}
use Rattle.sspi_negotiate.proofs.Follow.{unless_map}
use Rattle.sspi_negotiate.proofs.Keeping.{resumed_list}
use Rattle.sspi_credssp.specs.declared.context.SspiContext.{SspiContext}
use Rattle.sspi_credssp.specs.declared.context.SspiContext.TheVariants as contexts
use Rattle.sspi_credssp.specs.declared.mode.ClientMode.{ClientMode}
use Rattle.sspi_credssp.specs.declared.mode.ClientMode.TheVariants as modes
use Rattle.sspi_credssp.specs.declared.turn.Outcome.{Outcome}
use Rattle.sspi_credssp.specs.declared.turn.Outcome.TheVariants as outcome
use Rattle.sspi_credssp.specs.declared.turn.Turn.{Turn}
use Rattle.sspi_credssp.specs.Context.{Begun, IfContext, goes_on, is_new, either, ForClient}
use Rattle.sspi_credssp.specs.Ends.{ClientView}
use Rattle.sspi_credssp.specs.ClientTurn.{Asked, Walked, stepped, resumed, still_asked, recounted}
use Rattle.sspi_delegate.specs.Chain.{KdcCalls, ClientStage, client_at, ClientMovedBy, ClientChain, ClientChainLeft, at_rest, waiting}
use Rattle.sspi_delegate.specs.Turns.{OthersGoOn, GoesOn, AllGoOn}
use Rattle.sspi_play.specs.Negotiated.{IsOffer, HasOffered}
use Rattle.sspi_play.proofs.Contexts.{HoldsOf, holds_map, IsOfMics, holds_recounted, holds_same_but, holds_stepped, holds_resumed}
use Rattle.sspi_play.proofs.Marks.{is_marked, marks_before, hand_keeps}
use Rattle.sspi_play.proofs.Offering.{Still, OffersAt, client_offers, resumed_offers}

offered_more : (t : Turn) (turns : List Turn) (list : List (List ℕ)) → HasOffered turns list → HasOffered (t ∷ turns) list
offered_more t turns list was = record {
  at = record {
    later = t ∷ was.at.later;
    turn = was.at.turn;
    before = was.at.before;
    parts = ap (λ (l : List Turn). t ∷ l) was.at.parts;
  };
  offer = was.offer;
}

offered_by : (t : Turn) (turns : List Turn) (list : List (List ℕ)) → HasOffered turns list ⊎ IsOffer t.output list →
    HasOffered (t ∷ turns) list
offered_by t turns list (inl was) = offered_more t turns list was
offered_by t turns list (inr offer) = record { at = record { later = []; turn = t; before = turns; parts = refl }; offer = offer }

module _ {N K : Type 0} (n : Meaning Setting N) (k : Meaning Setting K) where
  -- once a negotiation is past its first step, or made or verified a MIC, its list is one of those
  pub record OffersBy (Has : List (List ℕ) → Type 0) (s : Negotiation (NegotiatedProtocol N K)) : Type 0 where
    pub role : s.role ≡ roles.Client
    pub begun : s.state ≢ states.Initial → Has s.list
    pub answering : is_answering s.branch ≡ true → Has s.list
    pub marked : is_marked ((hand n k).counts s.mech) ≡ true → Has s.list

  -- what holds of it even after a turn was refused
  pub record ShowsOffer (Has : List (List ℕ) → Type 0) (s : Negotiation (NegotiatedProtocol N K)) : Type 0 where
    pub marked : is_marked ((hand n k).counts s.mech) ≡ true → Has s.list

  offers_of_mics : (Has : List (List ℕ) → Type 0) → IsOfMics n k (OffersBy Has)
  offers_of_mics Has = λ s mech named marks h.
      record { role = h.role; begun = h.begun; answering = h.answering; marked = λ marked. h.marked (sym marks ∙ marked) }

  shows_of_mics : (Has : List (List ℕ) → Type 0) → IsOfMics n k (ShowsOffer Has)
  shows_of_mics Has = λ s mech named marks h. record { marked = λ marked. h.marked (sym marks ∙ marked) }

  offers_map : (Has Had : List (List ℕ) → Type 0) → ((list : List (List ℕ)) → Had list → Has list) →
      (s : Negotiation (NegotiatedProtocol N K)) → OffersBy Had s → OffersBy Has s
  offers_map Has Had map s h = record {
    role = h.role;
    begun = λ late. map s.list (h.begun late);
    answering = λ at. map s.list (h.answering at);
    marked = λ marked. map s.list (h.marked marked);
  }

  shows_map : (Has Had : List (List ℕ) → Type 0) → ((list : List (List ℕ)) → Had list → Has list) →
      (s : Negotiation (NegotiatedProtocol N K)) → ShowsOffer Had s → ShowsOffer Has s
  shows_map Has Had map s h = record { marked = λ marked. map s.list (h.marked marked) }

  -- its list was offered in one of these turns
  abbrev pub Offers : List Turn → Option (SspiContext N K) → Type 0
  Offers turns context = HoldsOf n k (OffersBy (λ (list : List (List ℕ)). HasOffered turns list)) context

  abbrev pub ShowsOffered : List Turn → Option (SspiContext N K) → Type 0
  ShowsOffered turns context = HoldsOf n k (ShowsOffer (λ (list : List (List ℕ)). HasOffered turns list)) context

  offers_show : (turns : List Turn) (context : Option (SspiContext N K)) → Offers turns context → ShowsOffered turns context
  offers_show turns context h = holds_map n k _ _ (λ s offers. record { marked = offers.marked }) context h

  -- what a step leaves, by its answer
  abbrev Next : Answer → (List (List ℕ) → Type 0) → Negotiation (NegotiatedProtocol N K) → Type 0
  Next (Done step) Has s = OffersBy (λ (list : List (List ℕ)). Has list ⊎ IsOffer step.output list) s
  Next (Ask request) Has s = OffersBy Has s
  Next (Refused error) Has s = ShowsOffer Has s

  next_of_mics : (x : Answer) (Has : List (List ℕ) → Type 0) → IsOfMics n k (Next x Has)
  next_of_mics (Done step) Has = offers_of_mics (λ (list : List (List ℕ)). Has list ⊎ IsOffer step.output list)
  next_of_mics (Ask request) Has = offers_of_mics Has
  next_of_mics (Refused error) Has = shows_of_mics Has

module _ {N K : Type 0} (r q : ℕ) (n : Meaning Setting N) (k : Meaning Setting K) (ln : IsMechanism r n) (lk : IsMechanism q k) where
  module _ (Has : List (List ℕ) → Type 0) (s s2 : Negotiation (NegotiatedProtocol N K)) where
    -- a step that left the list alone
    same_list : s2.role ≡ roles.Client → s2.list ≡ s.list → Has s.list → OffersBy n k Has s2
    same_list role same has = let there : Has s2.list = subst Has (sym same) has in
        record { role = role; begun = λ late. there; answering = λ at. there; marked = λ marked. there }

    still_next : s2.role ≡ roles.Client → Still (values_of s) (values_of s2) →
        (is_marked ((hand n k).counts s2.mech) ≡ true → is_marked ((hand n k).counts s.mech) ≡ true) → OffersBy n k Has s →
        OffersBy n k Has s2
    still_next role still marks h = record {
      role = role;
      begun = λ late. subst Has (sym still.list) (h.begun (λ at. late (still.state ∙ at)));
      answering = λ at. subst Has (sym still.list) (h.answering (still.answering at));
      marked = λ marked. subst Has (sym still.list) (h.marked (marks marked));
    }

    module _ (AtFirst : Type 0) where
      abbrev Planned : Answer → Type 0
      Planned x = UnlessMemory x (OffersAt (hand n k) (values_of s) AtFirst s2.mech x (values_of s2))

      later_next : (x : Answer) → (AtFirst → ⊥) → Planned x → OnRefused x (ShowsOffer n k Has s2) → s.role ≡ roles.Client → Has s.list →
          Next n k x Has s2
      later_next (Done step) late f shown client has =
          offers_map n k (λ (list : List (List ℕ)). Has list ⊎ IsOffer step.output list) Has (λ list h. inl h) s2
          (same_list (f.0 ∙ client) (f.2 late) has)
      later_next (Ask request) late f shown client has = same_list (f.0 ∙ client) f.1 has
      later_next (Refused error) late f shown client has = shown

      first_next : (x : Answer) → AtFirst → Planned x → OnRefused x (ShowsOffer n k Has s2) →
          (is_marked ((hand n k).counts s2.mech) ≡ true → is_marked ((hand n k).counts s.mech) ≡ true) → OffersBy n k Has s →
          Next n k x Has s2
      first_next (Done step) at f shown marks h = record {
        role = f.0 ∙ h.role;
        begun = λ late. inr (f.1 at);
        answering = λ here. inr (f.1 at);
        marked = λ marked. inr (f.1 at);
      }
      first_next (Ask request) at f shown marks h = still_next (f.0 ∙ h.role) (f.2 at) marks h
      first_next (Refused error) at f shown marks h = shown

    -- a refusal left the list alone, even one for lack of memory
    refusal_shows : s2.list ≡ s.list → (is_marked ((hand n k).counts s2.mech) ≡ true → Has s.list) → ShowsOffer n k Has s2
    refusal_shows same has = record { marked = λ marked. subst Has (sym same) (has marked) }

    by_state : (Goal : Type 0) (state : NegotiateState) → (state ≡ states.Initial → Goal) → (state ≢ states.Initial → Goal) → Goal
    by_state Goal states.Initial first later = first refl
    by_state Goal states.InProgress first later = later (λ e. cc (e))
    by_state Goal states.VerifyMic first later = later (λ e. cc (e))
    by_state Goal states.Ok first later = later (λ e. cc (e))

    by_branch : (Goal : Type 0) (b : Bool) → (b ≡ true → Goal) → (b ≡ false → Goal) → Goal
    by_branch Goal true answers other = answers refl
    by_branch Goal false answers other = other refl

    steps_shown : (args : StepArgs) (x : Answer) → (negotiate r n k).steps s args x s2 → OffersBy n k Has s →
        OnRefused x (ShowsOffer n k Has s2)
    steps_shown args (Done step) moves h = tt
    steps_shown args (Ask request) moves h = tt
    steps_shown args (Refused error) moves h = refusal_shows (moves.moves.stays.list h.role)
        (λ marked. by_state (Has s.list) s.state
        (λ at. h.marked (marks_before ((hand n k).counts s.mech) ((hand n k).counts s2.mech) (moves.moves.unmarked at) marked)) h.begun)

    steps_next : (args : StepArgs) (x : Answer) → (negotiate r n k).steps s args x s2 → OffersBy n k Has s → Next n k x Has s2
    steps_next args x moves h =
        let f = unless_map x ((client_offers (hand n k) moves.ip (values_of s) args s.mech).ends s2.mech x (values_of s2))
        moves.moves.follows.as_planned in
        by_state (Next n k x Has s2) s.state
        (λ at. first_next (s.state ≡ states.Initial) x at f (steps_shown args x moves h)
        (marks_before ((hand n k).counts s.mech) ((hand n k).counts s2.mech) (moves.moves.unmarked at)) h)
        (λ late. later_next (s.state ≡ states.Initial) x late f (steps_shown args x moves h) h.role (h.begun late))

    resumes_shown : (reply : Reply) (x : Answer) → (negotiate r n k).resumes s reply x s2 → OffersBy n k Has s →
        OnRefused x (ShowsOffer n k Has s2)
    resumes_shown reply (Done step) moves h = tt
    resumes_shown reply (Ask request) moves h = tt
    resumes_shown reply (Refused error) moves h = refusal_shows (resumed_list r n k s s2 reply error moves h.role)
        (λ marked. by_branch (Has s.list) (is_answering s.branch) h.answering
        (λ other. h.marked (marks_before ((hand n k).counts s.mech) ((hand n k).counts s2.mech) (moves.unmarked other) marked)))

    resumes_next : (reply : Reply) (x : Answer) → (negotiate r n k).resumes s reply x s2 → OffersBy n k Has s → Next n k x Has s2
    resumes_next reply x moves h =
        let f = unless_map x ((resumed_offers (hand n k) (values_of s) reply s.mech).ends s2.mech x (values_of s2))
        moves.follows.as_planned in
        by_branch (Next n k x Has s2) (is_answering s.branch)
        (λ at. later_next (is_answering s.branch ≡ false) x (λ off. false≢true (sym off ∙ at)) f (resumes_shown reply x moves h) h.role
        (h.answering at))
        (λ other. first_next (is_answering s.branch ≡ false) x other f (resumes_shown reply x moves h)
        (marks_before ((hand n k).counts s.mech) ((hand n k).counts s2.mech) (moves.unmarked other)) h)

  -- ---- a context that was just made

  taken_counts : (url : Option (List ℕ)) (kdcs : List KdcEntry) (computer : List ℕ) (m m2 : NegotiatedProtocol N K) →
      (hand n k).counts m ≡ no_counts → TakenBy (hand n k) url kdcs computer m m2 → (hand n k).counts m2 ≡ no_counts
  taken_counts None kdcs computer m m2 none same = ap (λ (x : NegotiatedProtocol N K). (hand n k).counts x) same ∙ none
  taken_counts (Some url) kdcs computer m m2 none made = (hand_keeps r q n k ln lk).made (InPlaceOfNtlm (Some url) kdcs computer) m2 made

  first_counts : (o : Result Origin ErrorKind) (m : NegotiatedProtocol N K) → IsFirst (hand n k) o m → (hand n k).counts m ≡ no_counts
  first_counts (Ok origin) m h = (hand_keeps r q n k ln lk).made origin m h
  first_counts (Err kind) m h = absurd h

  fresh_offers : (Has : List (List ℕ) → Type 0) (config : NegotiateConfig) (asked : Option Credentials)
      (buffers : Option CredentialsBuffers)
      (s s2 : Negotiation (NegotiatedProtocol N K)) →
      IsFirst (hand n k) (first_in_hand roles.Client config) s.mech → s ≡ fresh roles.Client config [] s.mech →
      (negotiate r n k).acquires s Outbound asked buffers s2 → OffersBy n k Has s2
  fresh_offers Has config asked buffers s s2 made same got =
      let state : s2.state ≡ states.Initial =
      ap (λ (x : Negotiation (NegotiatedProtocol N K)). x.state) got.kept
      ∙ ap (λ (x : Negotiation (NegotiatedProtocol N K)). x.state) same in
      let branch : is_answering s2.branch ≡ false =
      ap (λ (x : Negotiation (NegotiatedProtocol N K)). is_answering x.branch) got.kept
      ∙ ap (λ (x : Negotiation (NegotiatedProtocol N K)). is_answering x.branch) same in
      let counts : (hand n k).counts s2.mech ≡ no_counts =
      (hand_keeps r q n k ln lk).acquired got.mech s2.mech Outbound asked buffers got.acquired
      ∙ taken_counts _ s.kdcs s.computer s.mech got.mech (first_counts _ s.mech made) got.taken in
      record {
        role = ap (λ (x : Negotiation (NegotiatedProtocol N K)). x.role) got.kept
            ∙ ap (λ (x : Negotiation (NegotiatedProtocol N K)). x.role) same;
        begun = λ late. absurd (late state);
        answering = λ at. absurd (false≢true (sym branch ∙ at));
        marked = λ marked. absurd (false≢true (sym (ap is_marked counts) ∙ marked));
      }

  made_offers : (Has : List (List ℕ) → Type 0) (mode : ClientMode) (asked : Option Credentials) (buffers : Option CredentialsBuffers)
      (m m2 : SspiContext N K) →
      (either r n k).made (ForClient mode) m → (either r n k).acquires m Outbound asked buffers m2 →
      HoldsOf n k (OffersBy n k Has) (Some m2)
  made_offers Has (modes.Negotiate config) asked buffers (contexts.Negotiate s) (contexts.Negotiate s2) made got =
      fresh_offers Has config asked buffers s s2 made.1.0 made.1.1 got
  made_offers Has (modes.Ntlm config) asked buffers (contexts.Ntlm m) (contexts.Ntlm m2) made got =
      ap is_marked (ln.acquire_counts m m2 _ _ _ got) ∙ ap is_marked (ln.made_fresh _ m made)
  made_offers Has (modes.Negotiate config) asked buffers (contexts.Negotiate s) (contexts.Ntlm m2) made got = absurd got
  made_offers Has (modes.Negotiate config) asked buffers (contexts.Negotiate s) (contexts.Kerberos m2) made got = absurd got
  made_offers Has (modes.Negotiate config) asked buffers (contexts.Ntlm m) m2 made got = absurd made
  made_offers Has (modes.Negotiate config) asked buffers (contexts.Kerberos m) m2 made got = absurd made
  made_offers Has (modes.Ntlm config) asked buffers (contexts.Ntlm m) (contexts.Negotiate s2) made got = absurd got
  made_offers Has (modes.Ntlm config) asked buffers (contexts.Ntlm m) (contexts.Kerberos m2) made got = absurd got
  made_offers Has (modes.Ntlm config) asked buffers (contexts.Negotiate s) m2 made got = absurd made
  made_offers Has (modes.Ntlm config) asked buffers (contexts.Kerberos m) m2 made got = absurd made

  begun_offers : (Has : List (List ℕ) → Type 0) (context : Option (SspiContext N K)) (had handle : Option CredentialsBuffers)
      (mode : ClientMode) (asked : Option Credentials) (m : SspiContext N K) → HoldsOf n k (OffersBy n k Has) context →
      Begun (either r n k) context had (ForClient mode) Outbound asked handle m → HoldsOf n k (OffersBy n k Has) (Some m)
  begun_offers Has context had handle mode asked m h (goes_on is same) =
      subst (λ (o : Option (SspiContext N K)). HoldsOf n k (OffersBy n k Has) o) is h
  begun_offers Has context had handle mode asked m h (is_new m0 none made got) = made_offers Has mode asked handle m0 m made got

  -- ---- the turns

  walks_next : (Has : List (List ℕ) → Type 0) (start : ClientView (SspiContext N K)) (handle : Option CredentialsBuffers)
      (token : Option (List ℕ)) (tries : ℕ) (log : List Asked) (x : Answer) (m : SspiContext N K) → tries ≡ 0 →
      HoldsOf n k (OffersBy n k Has) start.context →
      Walked (either r n k) start handle token tries log x m → HoldsOf n k (Next n k x Has) (Some m)
  walks_next Has start handle token tries log x m none h (stepped m0 m1 y begun steps) =
      holds_stepped r q n k ln lk (OffersBy n k Has) (Next n k x Has) m0 m _ x
      (λ s s2 moves offers. steps_next Has s s2 _ x moves offers) steps
      (begun_offers Has start.context start.handle handle start.settings.mode (Some start.settings.credentials) m0 h begun)
  walks_next Has start handle token tries log x m none h (resumed m1 m2 tried before question reply y walked goes) =
      holds_resumed r q n k ln lk (OffersBy n k Has) (Next n k x Has) m1 m reply x
      (λ s s2 moves offers. resumes_next Has s s2 reply x moves offers) goes
      (walks_next Has start handle token tried before (Ask question) m1 none h walked)
  walks_next Has start handle token tries log x m none h (still_asked m1 m2 tried before question reply error walked goes waits) =
      let never : ⊥ = omega (arith, none) in absurd never
  walks_next Has start handle token tries log x m none h (recounted m1 m2 i tried before y walked counted quiet) =
      subst (λ (z : SspiContext N K). HoldsOf n k (Next n k x Has) (Some z)) (sym counted)
      (holds_recounted r q n k ln lk (Next n k x Has) (next_of_mics n k x Has) m1 i quiet
      (walks_next Has start handle token tried before x m1 none h walked))

  module _ {D : Type 0} (kdcs : KdcCalls D) (first : ClientView (SspiContext N K)) where
    all_more : (t : Turn) (past : List Turn) (context : Option (SspiContext N K)) → Offers n k past context → Offers n k (t ∷ past) context
    all_more t past context h = holds_map n k _ _
        (offers_map n k (λ (list : List (List ℕ)). HasOffered (t ∷ past) list) (λ (list : List (List ℕ)). HasOffered past list)
        (λ list was. offered_more t past list was)) context h

    stepped_next : (past : List Turn) (stage next : ClientStage (SspiContext N K) D) (token : Option (List ℕ)) (x : Answer)
        (context : Option (SspiContext N K)) → Offers n k past stage.context → (asked : List Asked) →
        IfContext context (Walked (either r n k) (client_at (either r n k) kdcs first stage) next.handle token 0 asked x) →
        HoldsOf n k (Next n k x (λ (list : List (List ℕ)). HasOffered past list)) context
    stepped_next past stage next token x None h asked walked = absurd walked
    stepped_next past stage next token x (Some m) h asked walked =
        walks_next (λ (list : List (List ℕ)). HasOffered past list) _ next.handle token 0 asked x m refl h walked

    -- what a turn leaves, by its outcome
    abbrev Leaves : Outcome → List Turn → Option (SspiContext N K) → Type 0
    Leaves (outcome.Reply reply) turns context = Offers n k turns context
    Leaves (outcome.Final reply) turns context = Offers n k turns context
    Leaves outcome.Finished turns context = Offers n k turns context
    Leaves (outcome.Refused kind reply) turns context = ShowsOffered n k turns context

    offers_leave : (came : Outcome) (turns : List Turn) (context : Option (SspiContext N K)) → Offers n k turns context →
        Leaves came turns context
    offers_leave (outcome.Reply reply) turns context h = h
    offers_leave (outcome.Final reply) turns context h = h
    offers_leave outcome.Finished turns context h = h
    offers_leave (outcome.Refused kind reply) turns context h = offers_show n k turns context h

    left_shows : (came : Outcome) (turns : List Turn) (context : Option (SspiContext N K)) → Leaves came turns context →
        ShowsOffered n k turns context
    left_shows (outcome.Reply reply) turns context h = offers_show n k turns context h
    left_shows (outcome.Final reply) turns context h = offers_show n k turns context h
    left_shows outcome.Finished turns context h = offers_show n k turns context h
    left_shows (outcome.Refused kind reply) turns context h = h

    gone_on : (came : Outcome) (turns : List Turn) (context : Option (SspiContext N K)) → GoesOn came → Leaves came turns context →
        Offers n k turns context
    gone_on (outcome.Reply reply) turns context goes h = h
    gone_on (outcome.Final reply) turns context goes h = h
    gone_on outcome.Finished turns context goes h = absurd goes
    gone_on (outcome.Refused kind reply) turns context goes h = absurd goes

    moved : (t : Turn) (past : List Turn) (stage next : ClientStage (SspiContext N K) D) (negotiated : Bool)
        (status : Option SecurityStatus) (came : Outcome) → Offers n k past stage.context →
        ClientMovedBy (either r n k) kdcs first negotiated status came t.delivered.nego_tokens t.output stage next →
        Leaves came (t ∷ past) next.context
    moved t past stage next false status came h by = offers_leave came (t ∷ past) next.context (all_more t past next.context
        (holds_same_but r q n k ln lk _ (offers_of_mics n k (λ (list : List (List ℕ)). HasOffered past list)) stage.context next.context
        by.context h))
    moved t past stage next true (Some status) came h by = offers_leave came (t ∷ past) next.context (holds_map n k _ _
        (offers_map n k (λ (list : List (List ℕ)). HasOffered (t ∷ past) list)
        (λ (list : List (List ℕ)). HasOffered past list ⊎ IsOffer t.output list) (λ list was. offered_by t past list was)) next.context
        (stepped_next past stage next t.delivered.nego_tokens (Done (record { status = status; output = t.output })) next.context h by.asked
        by.walked))
    moved t past stage next true None (outcome.Refused kind reply) h by = holds_map n k _ _
        (shows_map n k (λ (list : List (List ℕ)). HasOffered (t ∷ past) list) (λ (list : List (List ℕ)). HasOffered past list)
        (λ list was. offered_more t past list was)) next.context
        (stepped_next past stage next t.delivered.nego_tokens (Refused by.0) next.context h by.2.asked by.2.walked)
    moved t past stage next true None (outcome.Reply reply) h by = absurd by
    moved t past stage next true None (outcome.Final reply) h by = absurd by
    moved t past stage next true None outcome.Finished h by = absurd by

    chain_offers : (kdc : D) (turns : List Turn) (stage : ClientStage (SspiContext N K) D) → first.context ≡ None → AllGoOn turns →
        ClientChain (either r n k) kdcs first kdc turns stage → Offers n k turns stage.context
    chain_offers kdc [] stage none going chain = subst (λ (o : Option (SspiContext N K)). Offers n k [] o)
        (sym (ap (λ (x : ClientStage (SspiContext N K) D). x.context) chain ∙ none)) tt
    chain_offers kdc (t ∷ past) stage none going chain = gone_on t.outcome (t ∷ past) stage.context going.0
        (moved t past chain.0 stage t.acts.negotiated t.acts.status t.outcome
        (chain_offers kdc past chain.0 none going.1 chain.1) chain.2.moved)

    rest_shows : (kdc : D) (turns : List Turn) (stage : ClientStage (SspiContext N K) D) → first.context ≡ None → OthersGoOn turns →
        ClientChain (either r n k) kdcs first kdc turns stage → ShowsOffered n k turns stage.context
    rest_shows kdc [] stage none others chain = offers_show n k [] stage.context (chain_offers kdc [] stage none tt chain)
    rest_shows kdc (t ∷ past) stage none others chain = left_shows t.outcome (t ∷ past) stage.context
        (moved t past chain.0 stage t.acts.negotiated t.acts.status t.outcome
        (chain_offers kdc past chain.0 none others chain.1) chain.2.moved)

    pub left_offers : (due : TsRequest → Type 0) (kdc : D) (turns : List Turn) (now : ClientStage (SspiContext N K) D) →
        first.context ≡ None → OthersGoOn turns → ClientChainLeft (either r n k) kdcs first due kdc turns now →
        ShowsOffered n k turns now.context
    left_offers due kdc turns now none others (at_rest chain) = rest_shows kdc turns now none others chain
    left_offers due kdc turns now none others (waiting stage d question asked is going chain step lost) = offers_show n k turns now.context
        (stepped_next turns stage (record now { kdc = asked }) d.nego_tokens (Ask question) now.context
        (chain_offers kdc turns stage none going chain) step.asked step.walked)
