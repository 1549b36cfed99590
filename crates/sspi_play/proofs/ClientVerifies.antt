-- Once a client's turn proved, its negotiation is over, and has verified a MIC except for a guest.
use Rattle.std.proofs.Common.{◌≡◌, ◌≢◌, ◌≤◌, ◌+◌, ℕ, Bool, true, false, List, [], ◌∷◌, ◌++◌, Option, None, Some, IsSome}
use Rattle.std.proofs.Common.{refl, sym, ◌∙◌, ap, subst, arith, ◌&&◌, ◌||◌, ◌⊎◌, inl, inr, if◌then◌else◌}
use Rattle.std.proofs.lemmas.Bool.{false≢true, or_cases}
use Rattle.sspi_types.specs.declared.credential_use.CredentialUse.TheVariants.{Outbound}
use Rattle.sspi_types.specs.declared.security_status.SecurityStatus.{SecurityStatus}
use Rattle.sspi_types.specs.declared.security_status.SecurityStatus.TheVariants as statuses
use Rattle.sspi_names.specs.declared.credentials.Credentials.{Credentials}
use Rattle.sspi_names.specs.declared.credentials.CredentialsBuffers.{CredentialsBuffers}
use Rattle.sspi_names.specs.declared.network.NetworkRequest.{NetworkRequest}
use Rattle.sspi_mech.specs.declared.step.Answer.{Answer}
use Rattle.sspi_mech.specs.declared.step.Answer.TheVariants.{Done, Ask, Refused}
use Rattle.sspi_mech.specs.declared.step.Reply.{Reply}
use Rattle.sspi_mech.specs.declared.step.Step.{Step}
use Rattle.sspi_mech.specs.Calls.{StepArgs, Counts, one_verification}
use Rattle.sspi_mech.specs.Laws.{IsMechanism}
use Rattle.sspi_mech.specs.Meaning.{Meaning}
use Rattle.sspi_tsreq.specs.declared.request.TsRequest.{TsRequest}
use Rattle.sspi_mech.specs.Settings.{Setting}
use Rattle.sspi_negotiate.specs.declared.protocol.NegotiatedProtocol.{NegotiatedProtocol}
use Rattle.sspi_negotiate.specs.declared.state.NegotiateState.TheVariants as states
use Rattle.sspi_negotiate.specs.Client.{is_guest}
use Rattle.sspi_negotiate.specs.Hand.{hand}
use Rattle.sspi_negotiate.specs.Negotiate.{negotiate}
use Rattle.sspi_negotiate.specs.Rows.{client_wants_mic}
use Rattle.sspi_negotiate.specs.Values.{Negotiation, values_of}
use Rattle.sspi_negotiate.specs.Verified.{IsVerified, Leaves, as_it_was, having_signed}
use Rattle.sspi_negotiate.proofs.ClientLeads.{and_last}
use Rattle.sspi_negotiate.proofs.Shown.{client_shown as client_is_shown, resumed_shown}
use Rattle.sspi_credssp.specs.declared.context.SspiContext.{SspiContext}
use Rattle.sspi_credssp.specs.declared.context.SspiContext.TheVariants as contexts
use Rattle.sspi_credssp.specs.declared.mode.ClientMode.{ClientMode}
use Rattle.sspi_credssp.specs.declared.mode.ClientMode.TheVariants as modes
use Rattle.sspi_credssp.specs.declared.state.CredSspState.TheVariants.{NegoToken, AuthInfo, Final}
use Rattle.sspi_credssp.specs.declared.turn.Outcome.{Outcome}
use Rattle.sspi_credssp.specs.declared.turn.Outcome.TheVariants as outcome
use Rattle.sspi_credssp.specs.declared.turn.Turn.{Turn}
use Rattle.sspi_credssp.specs.Acts.{SameBut}
use Rattle.sspi_credssp.specs.ClientTurn.{Asked, Walked, stepped, resumed, still_asked, recounted}
use Rattle.sspi_credssp.specs.Context.{Begun, goes_on, is_new, IfContext, ContextSetting, ForClient, either}
use Rattle.sspi_credssp.specs.Ends.{ClientView}
use Rattle.sspi_credssp.specs.Turn.{ShowsClientActs, client_shown}
use Rattle.sspi_delegate.specs.Chain.{KdcCalls, ClientStage, client_at, ClientMovedBy, ClientChain, ClientChainLeft, at_rest, waiting}
use Rattle.sspi_delegate.specs.Turns.{ClientEnd, EachClientTurn, client_frame_at, client_state}
use Rattle.sspi_delegate.specs.Turns.{GoesOn, AllGoOn, OthersGoOn, is_replied, is_ended, any_proved, any_ended}
use Rattle.sspi_play.specs.Agreement.{TurnOf}
use Rattle.sspi_play.specs.Faithful.{verifications_in}
use Rattle.sspi_play.specs.Negotiated.{in_hand}
use Rattle.sspi_play.proofs.ClientNeeds.{NeedsBy, client_secures, resumed_secures, over_refuses}
use Rattle.sspi_play.proofs.Marks.{hand_keeps}
use Rattle.sspi_play.proofs.OnNegotiation.{OnNegotiation, map_on, IsLike, IsOfLike, counted_on, cleared_on}

-- ---- one of these turns proved

abbrev pub SomeProved : List Turn → Type 0
SomeProved [] = ⊥
SomeProved (t ∷ past) = (t.acts.proved ≡ true) ⊎ SomeProved past

some_of : (later : List Turn) (t : Turn) (before : List Turn) → t.acts.proved ≡ true → SomeProved (later ++ (t ∷ before))
some_of [] t before proved = inl proved
some_of (u ∷ later) t before proved = inr (some_of later t before proved)

pub some_proved : (turns : List Turn) (at : TurnOf turns) → at.turn.acts.proved ≡ true → SomeProved turns
some_proved turns at proved = subst SomeProved (sym at.parts) (some_of at.later at.turn at.before proved)

some_injective : (status status2 : SecurityStatus) → Some status ≡ Some status2 → status ≡ status2
some_injective status status2 is = cc (is)

none_is_none : (status : SecurityStatus) → None ≡ Some status → ⊥
none_is_none status is = cc (is)

-- a turn that proved, and went on, has the client past the authentication
head_marks : (came : Outcome) (proved ended_before proved_before : Bool) → GoesOn came → proved ≡ true →
    (is_ended came || ended_before) || ((is_replied came && proved) || proved_before) ≡ true
head_marks (outcome.Reply reply) true true proved_before goes is = refl
head_marks (outcome.Reply reply) true false proved_before goes is = refl
head_marks (outcome.Reply reply) false ended_before proved_before goes is = absurd (false≢true is)
head_marks (outcome.Final reply) proved ended_before proved_before goes is = refl
head_marks outcome.Finished proved ended_before proved_before goes is = absurd goes
head_marks (outcome.Refused kind reply) proved ended_before proved_before goes is = absurd goes

tail_marks : (ended proved ended_before proved_before : Bool) → ended_before || proved_before ≡ true →
    (ended || ended_before) || (proved || proved_before) ≡ true
tail_marks true proved ended_before proved_before is = refl
tail_marks false proved true proved_before is = refl
tail_marks false true false proved_before is = refl
tail_marks false false false proved_before is = is

marked : (past : List Turn) → AllGoOn past → SomeProved past → any_ended past || any_proved past ≡ true
marked [] going did = absurd did
marked (t ∷ past) going (inl proved) =
    head_marks t.outcome t.acts.proved (any_ended past) (any_proved past) going.0 proved
marked (t ∷ past) going (inr did) =
    tail_marks (is_ended t.outcome) (is_replied t.outcome && t.acts.proved) (any_ended past) (any_proved past) (marked past going.1 did)

unmarked : (ended proved : Bool) → (if ended then Final else (if proved then AuthInfo else NegoToken)) ≡ NegoToken →
    ended || proved ≡ true → ⊥
unmarked true proved is marks = absurd (cc (is))
unmarked false true is marks = absurd (cc (is))
unmarked false false is marks = false≢true marks

pub none_before : (past : List Turn) → AllGoOn past → client_state past ≡ NegoToken → SomeProved past → ⊥
none_before past going at did = unmarked (any_ended past) (any_proved past) at (marked past going did)

is_proved : (ended proved : Bool) → (if ended then Final else (if proved then AuthInfo else NegoToken)) ≡ AuthInfo → proved ≡ true
is_proved true proved is = absurd (cc (is))
is_proved false true is = refl
is_proved false false is = absurd (cc (is))

some_of_any : (past : List Turn) → any_proved past ≡ true → SomeProved past
some_of_any [] any = absurd (false≢true any)
some_of_any (t ∷ past) any = elim (or_cases (is_replied t.outcome && t.acts.proved) (any_proved past) any) [
  | inl here ↦ inl (and_last (is_replied t.outcome) t.acts.proved here)
  | inr before ↦ inr (some_of_any past before)
]

-- a client seals only once a turn before has proved
module _ {C : Type 0} (c : Meaning ContextSetting C) (end : ClientEnd C) where
  sealed_after : (later : List Turn) (t : Turn) (before : List Turn) → EachClientTurn c end (later ++ (t ∷ before)) →
      t.acts.sealed ≡ true → SomeProved (later ++ (t ∷ before))
  sealed_after [] t before each sealed = inr (some_of_any before
      (is_proved (any_ended before) (any_proved before) (each.0.shown.acts.checked (each.0.shown.acts.sealed sealed)).0))
  sealed_after (u ∷ later) t before each sealed = inr (sealed_after later t before each.1 sealed)

  pub sealed_proved : (turns : List Turn) → EachClientTurn c end turns → (at : TurnOf turns) → at.turn.acts.sealed ≡ true →
      SomeProved turns
  sealed_proved turns each at sealed = subst SomeProved (sym at.parts) (sealed_after at.later at.turn at.before
      (subst (λ (l : List Turn). EachClientTurn c end l) at.parts each) sealed)

-- ---- how many MICs a mechanism has verified

pub record HasVerifiedOne (counts : Counts) : Type 0 where
  pub one : 1 ≤ counts.verifications

one_more : (counts counts2 : Counts) → counts2.verifications ≡ counts.verifications + 1 → HasVerifiedOne counts2
one_more counts counts2 same = let there : 1 ≤ counts2.verifications = omega (arith, same) in record { one = there }

module _ {N K : Type 0} (n : Meaning Setting N) (k : Meaning Setting K) where
  abbrev pub VerifiedOne : Negotiation (NegotiatedProtocol N K) → Type 0
  VerifiedOne s = HasVerifiedOne ((hand n k).counts s.mech)

  -- what a step leaves
  abbrev Next : Bool → Answer → Negotiation (NegotiatedProtocol N K) → Type 0
  Next guest (Done step) s = NeedsBy guest (values_of s)
      × (step.status ≡ statuses.Ok → (s.state ≡ states.Ok) × (guest ≡ false → VerifiedOne s))
  Next guest (Ask request) s = NeedsBy guest (values_of s) × (s.state ≢ states.Ok)
  Next guest (Refused error) s = Unit {0}

  -- what holds of it between two turns, while no turn was refused
  pub record Guards (guest : Bool) (proved : Type 0) (s : Negotiation (NegotiatedProtocol N K)) : Type 0 where
    pub needs : s.state ≢ states.Initial → NeedsBy guest (values_of s)
    pub over : proved → s.state ≡ states.Ok
    pub verified : proved → guest ≡ false → VerifiedOne s

  pub one_stays : (mech mech2 : NegotiatedProtocol N K) → IsLike n k mech mech2 → HasVerifiedOne ((hand n k).counts mech) →
      HasVerifiedOne ((hand n k).counts mech2)
  one_stays mech mech2 like h = record { one = subst (λ (x : ℕ). 1 ≤ x) (sym like.verifications) h.one }

  next_of_like : (guest : Bool) (x : Answer) → IsOfLike n k (Next guest x)
  next_of_like guest (Done step) = λ s mech like h.
      (h.0, λ ok. ((h.1 ok).0, λ known. one_stays s.mech mech like ((h.1 ok).1 known)))
  next_of_like guest (Ask request) = λ s mech like h. h
  next_of_like guest (Refused error) = λ s mech like h. tt

  guards_of_like : (guest : Bool) (proved : Type 0) → IsOfLike n k (Guards guest proved)
  guards_of_like guest proved = λ s mech like h. record {
    needs = h.needs;
    over = h.over;
    verified = λ did known. one_stays s.mech mech like (h.verified did known);
  }

module _ {N K : Type 0} (r q : ℕ) (n : Meaning Setting N) (k : Meaning Setting K) (ln : IsMechanism r n) (lk : IsMechanism q k) where
  left_one : (before after m : NegotiatedProtocol N K) → after ≡ (hand n k).counted before (one_verification ((hand n k).counts before)) →
      Leaves (hand n k) after m → HasVerifiedOne ((hand n k).counts m)
  left_one before after m counted (as_it_was same) = one_more ((hand n k).counts before) ((hand n k).counts m)
      (ap (λ (x : NegotiatedProtocol N K). ((hand n k).counts x).verifications) (same ∙ counted)
      ∙ ap (λ (x : Counts). x.verifications) ((hand_keeps r q n k ln lk).counted before _))
  left_one before after m counted (having_signed same) = one_more ((hand n k).counts before) ((hand n k).counts m)
      (ap (λ (x : NegotiatedProtocol N K). ((hand n k).counts x).verifications) same
      ∙ ap (λ (x : Counts). x.verifications) ((hand_keeps r q n k ln lk).counted after _)
      ∙ ap (λ (x : NegotiatedProtocol N K). ((hand n k).counts x).verifications) counted
      ∙ ap (λ (x : Counts). x.verifications) ((hand_keeps r q n k ln lk).counted before _))

  pub verified_one : (list : List (List ℕ)) (m : NegotiatedProtocol N K) → IsVerified (hand n k) list m →
      HasVerifiedOne ((hand n k).counts m)
  verified_one list m v = left_one v.before v.after m v.counted v.last

  -- ---- a step of a negotiation

  module _ (guest : Bool) (s s2 : Negotiation (NegotiatedProtocol N K)) where
    steps_next : (args : StepArgs) (x : Answer) → client_wants_mic args.requirements ≡ true → is_guest args.handle ≡ guest →
        (negotiate r n k).steps s args x s2 → (s.state ≢ states.Initial → NeedsBy guest (values_of s)) → Next n k guest x s2
    steps_next args (Done step) wants who moves need =
        let h = (client_secures (hand n k) guest args wants who moves.ip (values_of s) s.mech need).ends s2.mech (Done step)
        (values_of s2) moves.moves.follows.as_planned in (
          h.0,
          λ ok. (
            h.1 ok,
            λ known. verified_one s.list s2.mech
                ((client_is_shown (hand n k) moves.ip (values_of s) args s.mech).ends s2.mech (Done step) (values_of s2)
                moves.moves.follows.as_planned (h.1 ok) (h.0 known)).1,
          ),
        )
    steps_next args (Ask request) wants who moves need =
        (client_secures (hand n k) guest args wants who moves.ip (values_of s) s.mech need).ends s2.mech (Ask request) (values_of s2)
        moves.moves.follows.as_planned
    steps_next args (Refused error) wants who moves need = tt

    resumes_next : (reply : Reply) (x : Answer) → (negotiate r n k).resumes s reply x s2 → NeedsBy guest (values_of s) →
        s.state ≢ states.Ok → Next n k guest x s2
    resumes_next reply (Done step) moves need before =
        let h = (resumed_secures (hand n k) guest (values_of s) reply s.mech need before).ends s2.mech (Done step) (values_of s2)
        moves.follows.as_planned in (
          h.0,
          λ ok. (
            h.1 ok,
            λ known. verified_one s.list s2.mech
                ((resumed_shown (hand n k) (values_of s) reply s.mech before).ends s2.mech (Done step) (values_of s2)
                moves.follows.as_planned (h.1 ok) (h.0 known)).1,
          ),
        )
    resumes_next reply (Ask request) moves need before =
        (resumed_secures (hand n k) guest (values_of s) reply s.mech need before).ends s2.mech (Ask request) (values_of s2)
        moves.follows.as_planned
    resumes_next reply (Refused error) moves need before = tt

    -- one that is over asks no KDC
    over_asks_not : (args : StepArgs) (request : NetworkRequest) → s.state ≡ states.Ok → (negotiate r n k).steps s args (Ask request) s2 →
        ⊥
    over_asks_not args request over moves =
        (over_refuses (hand n k) moves.ip (values_of s) args s.mech over).ends s2.mech (Ask request) (values_of s2)
        moves.moves.follows.as_planned

  -- ---- a context

  stepped_on : (guest : Bool) (m m2 : SspiContext N K) (args : StepArgs) (x : Answer) → client_wants_mic args.requirements ≡ true →
      is_guest args.handle ≡ guest → (either r n k).steps m args x m2 →
      OnNegotiation n k (λ (s : Negotiation (NegotiatedProtocol N K)). s.state ≢ states.Initial → NeedsBy guest (values_of s)) m →
      OnNegotiation n k (Next n k guest x) m2
  stepped_on guest (contexts.Negotiate s) (contexts.Negotiate s2) args x wants who a h = steps_next guest s s2 args x wants who a h
  stepped_on guest (contexts.Ntlm m) (contexts.Ntlm m2) args x wants who a h = tt
  stepped_on guest (contexts.Kerberos m) (contexts.Kerberos m2) args x wants who a h = tt
  stepped_on guest (contexts.Negotiate s) (contexts.Ntlm m2) args x wants who a h = tt
  stepped_on guest (contexts.Negotiate s) (contexts.Kerberos m2) args x wants who a h = tt
  stepped_on guest (contexts.Ntlm m) (contexts.Negotiate s2) args x wants who a h = absurd a
  stepped_on guest (contexts.Ntlm m) (contexts.Kerberos m2) args x wants who a h = tt
  stepped_on guest (contexts.Kerberos m) (contexts.Negotiate s2) args x wants who a h = absurd a
  stepped_on guest (contexts.Kerberos m) (contexts.Ntlm m2) args x wants who a h = tt

  resumed_on : (guest : Bool) (m m2 : SspiContext N K) (reply : Reply) (x : Answer) (request : NetworkRequest) →
      (either r n k).resumes m reply x m2 → OnNegotiation n k (Next n k guest (Ask request)) m → OnNegotiation n k (Next n k guest x) m2
  resumed_on guest (contexts.Negotiate s) (contexts.Negotiate s2) reply x request a h = resumes_next guest s s2 reply x a h.0 h.1
  resumed_on guest (contexts.Ntlm m) (contexts.Ntlm m2) reply x request a h = tt
  resumed_on guest (contexts.Kerberos m) (contexts.Kerberos m2) reply x request a h = tt
  resumed_on guest (contexts.Negotiate s) (contexts.Ntlm m2) reply x request a h = tt
  resumed_on guest (contexts.Negotiate s) (contexts.Kerberos m2) reply x request a h = tt
  resumed_on guest (contexts.Ntlm m) (contexts.Negotiate s2) reply x request a h = absurd a
  resumed_on guest (contexts.Ntlm m) (contexts.Kerberos m2) reply x request a h = tt
  resumed_on guest (contexts.Kerberos m) (contexts.Negotiate s2) reply x request a h = absurd a
  resumed_on guest (contexts.Kerberos m) (contexts.Ntlm m2) reply x request a h = tt

  -- a context that was just made has taken no step
  acquired_initial : (m m2 : SspiContext N K) (mode : ClientMode) (asked : Option Credentials) (buffers : Option CredentialsBuffers) →
      (either r n k).made (ForClient mode) m → (either r n k).acquires m Outbound asked buffers m2 →
      OnNegotiation n k (λ (s : Negotiation (NegotiatedProtocol N K)). s.state ≡ states.Initial) m2
  acquired_initial (contexts.Negotiate s) (contexts.Negotiate s2) (modes.Negotiate config) asked buffers made got =
      ap (λ (x : Negotiation (NegotiatedProtocol N K)). x.state) got.kept
      ∙ ap (λ (x : Negotiation (NegotiatedProtocol N K)). x.state) made.1.1
  acquired_initial (contexts.Negotiate s) (contexts.Negotiate s2) (modes.Ntlm config) asked buffers made got = absurd made
  acquired_initial (contexts.Ntlm m) (contexts.Negotiate s2) mode asked buffers made got = absurd got
  acquired_initial (contexts.Kerberos m) (contexts.Negotiate s2) mode asked buffers made got = absurd got
  acquired_initial m (contexts.Ntlm m2) mode asked buffers made got = tt
  acquired_initial m (contexts.Kerberos m2) mode asked buffers made got = tt

  -- ---- the context between two turns

  -- before there is a context, no turn has proved
  abbrev GuardsIn : Bool → List Turn → Option (SspiContext N K) → Type 0
  GuardsIn guest turns None = SomeProved turns → ⊥
  GuardsIn guest turns (Some m) = OnNegotiation n k (Guards n k guest (SomeProved turns)) m

  -- if it negotiates, it has verified a MIC
  abbrev pub VerifiedIn : Option (SspiContext N K) → Type 0
  VerifiedIn None = ⊥
  VerifiedIn (Some m) = OnNegotiation n k (VerifiedOne n k) m

  pub verified_in : (context : Option (SspiContext N K)) → IsSome (in_hand context) → VerifiedIn context →
      1 ≤ verifications_in (either r n k) context
  verified_in None some h = absurd h
  verified_in (Some (contexts.Negotiate s)) some h = h.one
  verified_in (Some (contexts.Ntlm m)) some h = absurd (false≢true some)
  verified_in (Some (contexts.Kerberos m)) some h = absurd (false≢true some)

  abbrev Needs : Bool → Negotiation (NegotiatedProtocol N K) → Type 0
  Needs guest s = s.state ≢ states.Initial → NeedsBy guest (values_of s)

  guards_verified : (guest : Bool) (turns : List Turn) (context : Option (SspiContext N K)) → GuardsIn guest turns context →
      SomeProved turns → guest ≡ false → VerifiedIn context
  guards_verified guest turns None h did known = absurd (h did)
  guards_verified guest turns (Some m) h did known =
      map_on n k (Guards n k guest (SomeProved turns)) (VerifiedOne n k) (λ s g. g.verified did known) m h

  begun_needs : (turns : List Turn) (context : Option (SspiContext N K)) (had handle : Option CredentialsBuffers) (mode : ClientMode)
      (asked : Option Credentials) (m : SspiContext N K) → GuardsIn (is_guest had) turns context →
      Begun (either r n k) context had (ForClient mode) Outbound asked handle m → OnNegotiation n k (Needs (is_guest handle)) m
  begun_needs turns context had handle mode asked m h (goes_on is same) =
      subst (λ (o : Option CredentialsBuffers). OnNegotiation n k (Needs (is_guest o)) m) (sym same)
      (map_on n k (Guards n k (is_guest had) (SomeProved turns)) (Needs (is_guest had)) (λ s g. g.needs) m
      (subst (λ (o : Option (SspiContext N K)). GuardsIn (is_guest had) turns o) is h))
  begun_needs turns context had handle mode asked m h (is_new m0 none made got) =
      map_on n k (λ (s : Negotiation (NegotiatedProtocol N K)). s.state ≡ states.Initial) (Needs (is_guest handle))
      (λ s at late. absurd (late at)) m (acquired_initial m0 m mode asked handle made got)

  walks_next : (turns : List Turn) (start : ClientView (SspiContext N K)) (handle : Option CredentialsBuffers)
      (token : Option (List ℕ)) (tries : ℕ) (log : List Asked) (x : Answer) (m : SspiContext N K) → tries ≡ 0 →
      GuardsIn (is_guest start.handle) turns start.context → Walked (either r n k) start handle token tries log x m →
      OnNegotiation n k (Next n k (is_guest handle) x) m
  walks_next turns start handle token tries log x m none h (stepped m0 m1 y begun steps) =
      stepped_on (is_guest handle) m0 m _ x refl refl steps
      (begun_needs turns start.context start.handle handle start.settings.mode (Some start.settings.credentials) m0 h begun)
  walks_next turns start handle token tries log x m none h (resumed m1 m2 tried before question reply y walked goes) =
      resumed_on (is_guest handle) m1 m reply x question goes
      (walks_next turns start handle token tried before (Ask question) m1 none h walked)
  walks_next turns start handle token tries log x m none h (still_asked m1 m2 tried before question reply error walked goes waits) =
      let never : ⊥ = omega (arith, none) in absurd never
  walks_next turns start handle token tries log x m none h (recounted m1 m2 i tried before y walked counted quiet) =
      subst (λ (z : SspiContext N K). OnNegotiation n k (Next n k (is_guest handle) x) z) (sym counted)
      (counted_on r q n k ln lk (Next n k (is_guest handle) x) (next_of_like n k (is_guest handle) x) m1 i quiet
      (walks_next turns start handle token tried before x m1 none h walked))

  -- ---- a context that is over asks no KDC

  abbrev Barred : Answer → Negotiation (NegotiatedProtocol N K) → Type 0
  Barred (Done step) s = Unit {0}
  Barred (Ask request) s = ⊥
  Barred (Refused error) s = Unit {0}

  barred_of_like : (x : Answer) → IsOfLike n k (Barred x)
  barred_of_like (Done step) = λ s mech like h. tt
  barred_of_like (Ask request) = λ s mech like h. h
  barred_of_like (Refused error) = λ s mech like h. tt

  over_barred : (s s2 : Negotiation (NegotiatedProtocol N K)) (args : StepArgs) (x : Answer) → s.state ≡ states.Ok →
      (negotiate r n k).steps s args x s2 → Barred x s2
  over_barred s s2 args (Done step) over moves = tt
  over_barred s s2 args (Ask request) over moves = over_asks_not false s s2 args request over moves
  over_barred s s2 args (Refused error) over moves = tt

  step_barred : (m m2 : SspiContext N K) (args : StepArgs) (x : Answer) → (either r n k).steps m args x m2 →
      OnNegotiation n k (λ (s : Negotiation (NegotiatedProtocol N K)). s.state ≡ states.Ok) m → OnNegotiation n k (Barred x) m2
  step_barred (contexts.Negotiate s) (contexts.Negotiate s2) args x a h = over_barred s s2 args x h a
  step_barred (contexts.Ntlm m) (contexts.Negotiate s2) args x a h = absurd a
  step_barred (contexts.Kerberos m) (contexts.Negotiate s2) args x a h = absurd a
  step_barred m (contexts.Ntlm m2) args x a h = tt
  step_barred m (contexts.Kerberos m2) args x a h = tt

  resume_barred : (m m2 : SspiContext N K) (reply : Reply) (x : Answer) (request : NetworkRequest) →
      (either r n k).resumes m reply x m2 → OnNegotiation n k (Barred (Ask request)) m → OnNegotiation n k (Barred x) m2
  resume_barred (contexts.Negotiate s) (contexts.Negotiate s2) reply x request a h = absurd h
  resume_barred (contexts.Ntlm m) (contexts.Negotiate s2) reply x request a h = absurd a
  resume_barred (contexts.Kerberos m) (contexts.Negotiate s2) reply x request a h = absurd a
  resume_barred m (contexts.Ntlm m2) reply x request a h = tt
  resume_barred m (contexts.Kerberos m2) reply x request a h = tt

  begun_over : (turns : List Turn) (context : Option (SspiContext N K)) (had handle : Option CredentialsBuffers) (mode : ClientMode)
      (asked : Option Credentials) (m : SspiContext N K) → SomeProved turns → GuardsIn (is_guest had) turns context →
      Begun (either r n k) context had (ForClient mode) Outbound asked handle m →
      OnNegotiation n k (λ (s : Negotiation (NegotiatedProtocol N K)). s.state ≡ states.Ok) m
  begun_over turns context had handle mode asked m did h (goes_on is same) =
      map_on n k (Guards n k (is_guest had) (SomeProved turns)) (λ (s : Negotiation (NegotiatedProtocol N K)). s.state ≡ states.Ok)
      (λ s g. g.over did) m (subst (λ (o : Option (SspiContext N K)). GuardsIn (is_guest had) turns o) is h)
  begun_over turns context had handle mode asked m did h (is_new m0 none made got) =
      absurd (subst (λ (o : Option (SspiContext N K)). GuardsIn (is_guest had) turns o) none h did)

  walks_barred : (turns : List Turn) (start : ClientView (SspiContext N K)) (handle : Option CredentialsBuffers)
      (token : Option (List ℕ)) (tries : ℕ) (log : List Asked) (x : Answer) (m : SspiContext N K) → tries ≡ 0 → SomeProved turns →
      GuardsIn (is_guest start.handle) turns start.context → Walked (either r n k) start handle token tries log x m →
      OnNegotiation n k (Barred x) m
  walks_barred turns start handle token tries log x m none did h (stepped m0 m1 y begun steps) =
      step_barred m0 m _ x steps
      (begun_over turns start.context start.handle handle start.settings.mode (Some start.settings.credentials) m0 did h begun)
  walks_barred turns start handle token tries log x m none did h (resumed m1 m2 tried before question reply y walked goes) =
      resume_barred m1 m reply x question goes
      (walks_barred turns start handle token tried before (Ask question) m1 none did h walked)
  walks_barred turns start handle token tries log x m none did h
      (still_asked m1 m2 tried before question reply error walked goes waits) =
      let never : ⊥ = omega (arith, none) in absurd never
  walks_barred turns start handle token tries log x m none did h (recounted m1 m2 i tried before y walked counted quiet) =
      subst (λ (z : SspiContext N K). OnNegotiation n k (Barred x) z) (sym counted)
      (counted_on r q n k ln lk (Barred x) (barred_of_like x) m1 i quiet
      (walks_barred turns start handle token tried before x m1 none did h walked))

  -- ---- the turns

  module _ {D : Type 0} (kdcs : KdcCalls D) (first : ClientView (SspiContext N K)) (end : ClientEnd (SspiContext N K)) where
    abbrev Guarded : List Turn → ClientStage (SspiContext N K) D → Type 0
    Guarded turns stage = GuardsIn (is_guest stage.handle) turns stage.context

    abbrev pub Claims : List Turn → ClientStage (SspiContext N K) D → Type 0
    Claims turns stage = SomeProved turns → is_guest stage.handle ≡ false → VerifiedIn stage.context

    -- what a turn leaves, by its outcome
    pub record LeavesBy (came : Outcome) (turns : List Turn) (next : ClientStage (SspiContext N K) D) : Type 0 where
      pub guards : GoesOn came → Guarded turns next
      pub claims : Claims turns next

    leaves : (came : Outcome) (turns : List Turn) (next : ClientStage (SspiContext N K) D) → Guarded turns next → LeavesBy came turns next
    leaves came turns next h = record {
      guards = λ goes. h;
      claims = λ did known. guards_verified (is_guest next.handle) turns next.context h did known;
    }

    -- a turn without a step proves nothing
    rest_is_bare : (t : Turn) (past : List Turn) → ShowsClientActs (client_shown (client_frame_at end past t)) t →
        t.acts.negotiated ≡ false → SomeProved (t ∷ past) → SomeProved past
    rest_is_bare t past acts bare (inl proved) =
        absurd (false≢true (sym bare ∙ acts.answered (subst IsSome (sym (acts.proved proved).0) refl)))
    rest_is_bare t past acts bare (inr did) = did

    less_proved : (guest : Bool) (turns past : List Turn) → (SomeProved turns → SomeProved past) →
        (s : Negotiation (NegotiatedProtocol N K)) → Guards n k guest (SomeProved past) s → Guards n k guest (SomeProved turns) s
    less_proved guest turns past less s g = record {
      needs = g.needs;
      over = λ did. g.over (less did);
      verified = λ did known. g.verified (less did) known;
    }

    rested : (guest guest2 : Bool) (turns past : List Turn) (context context2 : Option (SspiContext N K)) →
        (SomeProved turns → SomeProved past) → SameBut (either r n k) context context2 → (IsSome context → guest2 ≡ guest) →
        GuardsIn guest past context → GuardsIn guest2 turns context2
    rested guest guest2 turns past None None less same who h = λ did. h (less did)
    rested guest guest2 turns past None (Some m2) less same who h = absurd same
    rested guest guest2 turns past (Some m) None less same who h = absurd same
    rested guest guest2 turns past (Some m) (Some m2) less same who h =
        subst (λ (b : Bool). OnNegotiation n k (Guards n k b (SomeProved turns)) m2) (sym (who refl))
        (cleared_on r q n k ln lk (Guards n k guest (SomeProved turns)) (guards_of_like n k guest (SomeProved turns)) m m2 same
        (map_on n k (Guards n k guest (SomeProved past)) (Guards n k guest (SomeProved turns)) (less_proved guest turns past less) m h))

    -- a step after which a turn proved, or that went on
    done_guards : (guest : Bool) (turns : List Turn) (step : Step) → (SomeProved turns → step.status ≡ statuses.Ok) →
        (s : Negotiation (NegotiatedProtocol N K)) → Next n k guest (Done step) s → Guards n k guest (SomeProved turns) s
    done_guards guest turns step ended s h = record {
      needs = λ late. h.0;
      over = λ did. (h.1 (ended did)).0;
      verified = λ did known. (h.1 (ended did)).1 known;
    }

    done_leaves : (turns past : List Turn) (stage next : ClientStage (SspiContext N K) D) (token : Option (List ℕ)) (step : Step)
        (context : Option (SspiContext N K)) (log : List Asked) → (SomeProved turns → step.status ≡ statuses.Ok) → Guarded past stage →
        IfContext context (Walked (either r n k) (client_at (either r n k) kdcs first stage) next.handle token 0 log (Done step)) →
        GuardsIn (is_guest next.handle) turns context
    done_leaves turns past stage next token step None log ended h walked = absurd walked
    done_leaves turns past stage next token step (Some m) log ended h walked =
        map_on n k (Next n k (is_guest next.handle) (Done step)) (Guards n k (is_guest next.handle) (SomeProved turns))
        (done_guards (is_guest next.handle) turns step ended) m
        (walks_next past (client_at (either r n k) kdcs first stage) next.handle token 0 log (Done step) m refl h walked)

    proved_here : (t : Turn) (past : List Turn) → (SomeProved past → ⊥) → SomeProved (t ∷ past) → t.acts.proved ≡ true
    proved_here t past none (inl proved) = proved
    proved_here t past none (inr did) = absurd (none did)

    moved : (t : Turn) (past : List Turn) (stage next : ClientStage (SspiContext N K) D) (negotiated : Bool)
        (status : Option SecurityStatus) (came : Outcome) → ShowsClientActs (client_shown (client_frame_at end past t)) t →
        t.acts.negotiated ≡ negotiated → t.acts.status ≡ status → (negotiated ≡ true → SomeProved past → ⊥) → Guarded past stage →
        ClientMovedBy (either r n k) kdcs first negotiated status came t.delivered.nego_tokens t.output stage next →
        LeavesBy came (t ∷ past) next
    moved t past stage next false status came acts is at none h by = leaves came (t ∷ past) next
        (rested (is_guest stage.handle) (is_guest next.handle) (t ∷ past) past stage.context next.context (rest_is_bare t past acts is)
        by.context (λ some. ap is_guest (by.handle some)) h)
    moved t past stage next true (Some status) came acts is at none h by = leaves came (t ∷ past) next
        (done_leaves (t ∷ past) past stage next t.delivered.nego_tokens (record { status = status; output = t.output }) next.context
        by.asked (λ did. some_injective status statuses.Ok (sym at ∙ (acts.proved (proved_here t past (none refl) did)).0)) h by.walked)
    moved t past stage next true None (outcome.Refused kind reply) acts is at none h by = record {
      guards = λ goes. absurd goes;
      claims = λ did known. absurd (none_is_none statuses.Ok (sym at ∙ (acts.proved (proved_here t past (none refl) did)).0));
    }
    moved t past stage next true None (outcome.Reply reply) acts is at none h by = absurd by
    moved t past stage next true None (outcome.Final reply) acts is at none h by = absurd by
    moved t past stage next true None outcome.Finished acts is at none h by = absurd by

    chain_guards : (kdc : D) (turns : List Turn) (stage : ClientStage (SspiContext N K) D) → first.context ≡ None → AllGoOn turns →
        EachClientTurn (either r n k) end turns → ClientChain (either r n k) kdcs first kdc turns stage → Guarded turns stage
    chain_guards kdc [] stage none going each chain =
        subst (λ (o : Option (SspiContext N K)). GuardsIn (is_guest stage.handle) [] o)
        (sym (ap (λ (x : ClientStage (SspiContext N K) D). x.context) chain ∙ none)) (λ did. did)
    chain_guards kdc (t ∷ past) stage none going each chain = (moved t past chain.0 stage t.acts.negotiated t.acts.status t.outcome
        each.0.shown.acts refl refl (λ step. none_before past going.1 (each.0.shown.acts.negotiated step))
        (chain_guards kdc past chain.0 none going.1 each.1 chain.1) chain.2.moved).guards going.0

    rest_claims : (kdc : D) (turns : List Turn) (stage : ClientStage (SspiContext N K) D) → first.context ≡ None → OthersGoOn turns →
        EachClientTurn (either r n k) end turns → ClientChain (either r n k) kdcs first kdc turns stage → Claims turns stage
    rest_claims kdc [] stage none others each chain = λ did known. absurd did
    rest_claims kdc (t ∷ past) stage none others each chain = (moved t past chain.0 stage t.acts.negotiated t.acts.status t.outcome
        each.0.shown.acts refl refl (λ step. none_before past others (each.0.shown.acts.negotiated step))
        (chain_guards kdc past chain.0 none others each.1 chain.1) chain.2.moved).claims

    waiting_claims : (turns : List Turn) (stage now : ClientStage (SspiContext N K) D) (token : Option (List ℕ))
        (question : NetworkRequest) (log : List Asked) (context : Option (SspiContext N K)) → Guarded turns stage → SomeProved turns →
        IfContext context (Walked (either r n k) (client_at (either r n k) kdcs first stage) now.handle token 0 log (Ask question)) →
        VerifiedIn context
    waiting_claims turns stage now token question log None h did walked = absurd walked
    waiting_claims turns stage now token question log (Some m) h did walked =
        map_on n k (Barred (Ask question)) (VerifiedOne n k) (λ s barred. absurd barred) m
        (walks_barred turns (client_at (either r n k) kdcs first stage) now.handle token 0 log (Ask question) m refl did h walked)

    pub left_claims : (due : TsRequest → Type 0) (kdc : D) (turns : List Turn) (now : ClientStage (SspiContext N K) D) →
        first.context ≡ None → OthersGoOn turns →
        EachClientTurn (either r n k) end turns → ClientChainLeft (either r n k) kdcs first due kdc turns now → Claims turns now
    left_claims due kdc turns now none others each (at_rest chain) = rest_claims kdc turns now none others each chain
    left_claims due kdc turns now none others each (waiting stage d question asked is going chain step lost) =
        λ did known. waiting_claims turns stage now d.nego_tokens question step.asked now.context
        (chain_guards kdc turns stage none going each chain) did step.walked
