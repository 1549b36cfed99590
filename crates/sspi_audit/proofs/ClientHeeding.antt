-- What a client of a run heeds, and how it refuses, by its calls.
use Rattle.std.proofs.Common.{◌≡◌, ℕ, ◌⊎◌, inl, inr, List, [], ◌∷◌, length, Option, None, Some, IsSome, Bool, true, false, nat_lt}
use Rattle.std.proofs.Common.{Result, Err, if◌then◌else◌, sym, ◌∙◌, ap, subst, refl}
use Rattle.sspi_types.specs.declared.credential_use.CredentialUse.TheVariants.{Outbound}
use Rattle.sspi_types.specs.declared.error.Error.{Error}
use Rattle.sspi_types.specs.declared.error_kind.ErrorKind.{ErrorKind}
use Rattle.sspi_types.specs.declared.error_kind.ErrorKind.TheVariants.{DowngradeDetected, InvalidToken, MessageAltered, OutOfSequence}
use Rattle.sspi_types.specs.declared.security_status.SecurityStatus.{SecurityStatus}
use Rattle.sspi_types.specs.declared.security_status.SecurityStatus.TheVariants as statuses
use Rattle.sspi_mech.specs.Context.{IsContext}
use Rattle.sspi_mech.specs.Meaning.{Meaning}
use Rattle.sspi_tsreq.specs.declared.request.TsRequest.{TsRequest}
use Rattle.sspi_credssp.specs.declared.acts.Acts.{Acts}
use Rattle.sspi_credssp.specs.declared.client_state.Progress.{Progress}
use Rattle.sspi_credssp.specs.declared.state.CredSspState.{CredSspState}
use Rattle.sspi_credssp.specs.declared.state.CredSspState.TheVariants as state
use Rattle.sspi_credssp.specs.declared.turn.Outcome.{Outcome}
use Rattle.sspi_credssp.specs.declared.turn.Outcome.TheVariants as outcome
use Rattle.sspi_credssp.specs.declared.turn.Turn.{Turn}
use Rattle.sspi_credssp.specs.Acts.{no_acts, is_waiting_in}
use Rattle.sspi_credssp.specs.ClientCall.{ClientKeeps}
use Rattle.sspi_credssp.specs.ClientCause.{ClientCause, ClientExact, NegoCause, ProveCause, StateCause, StateExact}
use Rattle.sspi_credssp.specs.ClientTurn.{ClientMoves, ClientTurn, client_turn, noted_after}
use Rattle.sspi_credssp.specs.Context.{BeginCause, ContextSetting, ForClient, MadeOr}
use Rattle.sspi_credssp.specs.Ends.{ClientView, IsFreshClient}
use Rattle.sspi_credssp.specs.Exchange.{BlobStops}
use Rattle.sspi_credssp.specs.Noted.{ClientHeeds as HeedsVersion, OrMemory, StopsIf, differs, is_altered_in, is_old, is_old_in}
use Rattle.sspi_credssp.specs.Noted.{VersionStopsIn}
use Rattle.sspi_credssp.specs.Requests.{is_code}
use Rattle.sspi_credssp.specs.Turn.{AtNoted, ShownFrame, UnlessRefused}
use Rattle.sspi_delegate.specs.Chain.{KdcCalls}
use Rattle.sspi_delegate.specs.History.{ClientTakes, ClientMakes, ClientHistory}
use Rattle.sspi_delegate.specs.Turns.{AllGoOn, ClientEnd, ClientFollows, EachClientTurn, GoesOn, OthersGoOn, client_end, client_noted}
use Rattle.sspi_delegate.proofs.HistoryRuns.{client_turn_of, history_follows}
use Rattle.sspi_audit.specs.Refusals.{ClientRefuses, ClientStateRefuses, ClientStops, FindsOldServer, TokenRefused}
use Rattle.sspi_audit.specs.Run.{ClientHeeds, IfRefused}
use Rattle.sspi_audit.specs.Frames.{client_before}
use Rattle.sspi_audit.proofs.Runs.{client_any}

-- ---- a check that stops a turn

pub stops_on : (stops : Bool) (here kind : ErrorKind) (A B : Type 0) → (stops ≡ false → A → B) → StopsIf stops here kind A →
    StopsIf stops here kind B
stops_on true here kind A B on is = is
stops_on false here kind A B on later = on refl later

pub both_on : (stops : Bool) (here kind : ErrorKind) (A B D : Type 0) → (stops ≡ false → A → B → D) → StopsIf stops here kind A →
    StopsIf stops here kind B → StopsIf stops here kind D
both_on true here kind A B D on is too = is
both_on false here kind A B D on is too = on refl is too

pub blob_on : (blob : Option (List ℕ)) (kind : ErrorKind) (A B : List ℕ → Type 0) → ((bytes : List ℕ) → A bytes → B bytes) →
    BlobStops blob kind A → BlobStops blob kind B
blob_on None kind A B on is = is
blob_on (Some bytes) kind A B on is = stops_on (nat_lt (length bytes) 16) InvalidToken kind (A bytes) (B bytes) (λ long. on bytes) is

-- ---- the version that is pinned, whatever the least version is

pub at_some : (noted : Option ℕ) (P : ℕ → Type 0) → AtNoted noted P → (version : ℕ) × (noted ≡ Some version)
at_some None P at = absurd at
at_some (Some version) P at = (version, refl)

unless_on : (out : Outcome) (P : Type 0) → GoesOn out → UnlessRefused out P → P
unless_on (outcome.Reply reply) P goes p = p
unless_on (outcome.Final reply) P goes p = p
unless_on outcome.Finished P goes p = absurd goes
unless_on (outcome.Refused kind reply) P goes p = absurd goes

-- each turn of a client, after those before it
abbrev pub EachClientHeeds : List Turn → Type 0
EachClientHeeds [] = Unit {0}
EachClientHeeds (t ∷ past) = ClientHeeds (client_before past) t × EachClientHeeds past

others_on : (past : List Turn) → AllGoOn past → OthersGoOn past
others_on [] going = tt
others_on (t ∷ past) going = going.1

module _ {C : Type 0} (c : Meaning ContextSetting C) where
  noted_same : (e : ClientEnd C) (past : List Turn) → EachClientTurn c e past → AllGoOn past →
      client_noted e.settings.least past ≡ client_noted 0 past
  noted_same e [] each going = refl
  noted_same e (t ∷ []) each going = refl
  noted_same e (t ∷ u ∷ past) each going =
      let some = at_some (client_noted e.settings.least (t ∷ u ∷ past)) _ (unless_on t.outcome _ going.0 each.0.shown.version) in
      some.1 ∙ sym (client_any e.settings.least (t ∷ u ∷ past) some.0 some.1)

  old_noted : (first old : ClientView C) (past : List Turn) → ClientFollows c first old past → old.noted ≡ client_noted 0 past
  old_noted first old past follows = follows.noted ∙ noted_same (client_end old) past follows.ran.each follows.going

  -- ---- given an error, or another version

  told_nothing : (old mid : ClientView C) (d : TsRequest) (result : Result Progress Error) → is_waiting_in c old.context ≡ false →
      ClientKeeps c old d result mid → is_code d.error_code ≡ true → mid.acts ≡ no_acts
  told_nothing old mid d result idle keeps code = ap (λ (v : ClientView C). v.acts) (keeps.code idle code).0.1

  altered_nothing : (old mid : ClientView C) (d : TsRequest) (result : Result Progress Error) (code : Bool) →
      is_code d.error_code ≡ code → is_waiting_in c old.context ≡ false → ClientKeeps c old d result mid →
      is_altered_in old.context old.noted d.version ≡ true → mid.acts ≡ no_acts
  altered_nothing old mid d result true is idle keeps altered = told_nothing old mid d result idle keeps is
  altered_nothing old mid d result false is idle keeps altered =
      ap (λ (v : ClientView C). v.acts) (keeps.altered idle is altered).1

  altered_there : (context : Option C) (noted : Option ℕ) (version : ℕ) → IsSome context → differs noted version ≡ true →
      is_altered_in context noted version ≡ true
  altered_there None noted version some altered = absurd (cc (some))
  altered_there (Some m) noted version some altered = altered

  is_altered : (first old : ClientView C) (past : List Turn) (version : ℕ) → ClientFollows c first old past →
      differs (client_noted 0 past) version ≡ true → is_altered_in old.context old.noted version ≡ true
  is_altered first old [] version follows altered = absurd (cc (altered))
  is_altered first old (t ∷ past) version follows altered =
      altered_there old.context old.noted version follows.begun
      (subst (λ (noted : Option ℕ). differs noted version ≡ true) (sym (old_noted first old (t ∷ past) follows)) altered)

  -- ---- the kind of a refusal

  if_same : (b : Bool) (x : Option ℕ) → (if b then x else x) ≡ x
  if_same true x = refl
  if_same false x = refl

  -- in a turn before which there was no context, no version is pinned
  unnoted : (old mid : ClientView C) (d : TsRequest) → old.context ≡ None → old.noted ≡ None → mid.noted ≡ noted_after c old d →
      mid.noted ≡ None
  unnoted old mid d none noted is = is ∙ rw none (if_same (is_code d.error_code) old.noted) ∙ noted

  token_refused : (f : ShownFrame) (mid : ClientView C) (status : Option SecurityStatus) (kind : ErrorKind) →
      (f.looks ≡ false → mid.noted ≡ None) → NegoCause c status mid kind → TokenRefused f mid.acts status kind
  token_refused f mid None kind noted cause = λ unstepped. absurd (cc (unstepped, cause))
  token_refused f mid (Some statuses.Ok) kind noted cause =
      λ first. subst (λ (n : Option ℕ). ProveCause c n mid.context mid kind) (noted first) cause
  token_refused f mid (Some statuses.ContinueNeeded) kind noted cause = cause
  token_refused f mid (Some statuses.CompleteNeeded) kind noted cause = cause
  token_refused f mid (Some statuses.CompleteAndContinue) kind noted cause = cause
  token_refused f mid (Some statuses.LocalLogon) kind noted cause = cause
  token_refused f mid (Some statuses.ContextExpired) kind noted cause = cause
  token_refused f mid (Some statuses.IncompleteCredentials) kind noted cause = cause
  token_refused f mid (Some statuses.Renegotiate) kind noted cause = cause
  token_refused f mid (Some statuses.NoLsaContext) kind noted cause = cause

  state_refused : (f : ShownFrame) (mid : ClientView C) (d : TsRequest) (out : Outcome) (at : CredSspState) (kind : ErrorKind) →
      (f.looks ≡ false → mid.noted ≡ None) → OrMemory kind (StateCause c at d mid kind) → StateExact c at d mid kind →
      ClientStateRefuses f (client_turn c d out mid) at kind
  state_refused f mid d out state.NegoToken kind noted cause exact =
      λ memory. token_refused f mid mid.acts.status kind noted (cause memory)
  state_refused f mid d out state.PubKeyInfo kind noted cause exact = exact
  state_refused f mid d out state.AuthInfo kind noted cause exact =
      blob_on d.pub_key_auth kind _ (λ blob. Unit {0}) (λ bytes later. tt) exact
  state_refused f mid d out state.Final kind noted cause exact = exact

  -- in the first turn: no context was made, or one that took its first step
  first_refused : (f : ShownFrame) (old mid : ClientView C) (d : TsRequest) (out : Outcome) (result : Result Progress Error)
      (context : Option C) (kind : ErrorKind) (Unbegun : Type 0) → f.looks ≡ false → mid.context ≡ context → old.context ≡ None →
      mid.noted ≡ None → ClientKeeps c old d result mid →
      OrMemory kind (MadeOr {C = C} None context Unbegun (StateCause c state.NegoToken d mid kind)) →
      ClientStateRefuses f (client_turn c d out mid) state.NegoToken kind
  first_refused f old mid d out result None kind Unbegun looks none was noted keeps cause =
      let none : mid.acts ≡ no_acts = ap (λ (v : ClientView C). v.acts) (keeps.unmade none) in
      λ memory. subst (λ (acts : Acts). TokenRefused f acts acts.status kind) (sym none) (λ unstepped. looks)
  first_refused f old mid d out result (Some m) kind Unbegun looks is was noted keeps cause =
      state_refused f mid d out state.NegoToken kind (λ first. noted) cause tt

  module _ {D : Type 0} (k : KdcCalls D) where
    -- in a later turn: in the second, the version is too old; or what the state needs is refused
    old_refused : (f : ShownFrame) (old mid : ClientView C) (d : TsRequest) (out : Outcome) (noted : Option ℕ) (old_one : Bool)
        (kind : ErrorKind) → f.looks ≡ true → f.noted ≡ noted → is_old old.settings.least noted d.version ≡ old_one →
        (noted ≡ None → old_one ≡ true → mid.acts ≡ no_acts) →
        StopsIf old_one DowngradeDetected kind (StopsIf (differs noted d.version) MessageAltered kind
        (OrMemory kind (StateCause c f.state d mid kind))) →
        StopsIf old_one DowngradeDetected kind (StopsIf (differs noted d.version) MessageAltered kind
        (StateExact c f.state d mid kind)) →
        StopsIf (differs noted d.version) MessageAltered kind
        (FindsOldServer f (client_turn c d out mid) kind ⊎ ClientStateRefuses f (client_turn c d out mid) f.state kind)
    old_refused f old mid d out None true kind looks noted is nothing stops exact =
        inl (record { looks = looks; unnoted = noted; acts = nothing refl refl; downgrade = stops })
    old_refused f old mid d out (Some version) true kind looks noted is nothing stops exact = absurd (cc (is))
    old_refused f old mid d out noted false kind looks is not_old nothing stops exact =
        both_on (differs noted d.version) MessageAltered kind _ _ _
        (λ same cause too. inr (state_refused f mid d out f.state kind (λ first. absurd (cc (first, looks))) cause too)) stops exact

    -- after the check for a reported error
    abbrev AfterCode : ClientView C → ClientView C → TsRequest → Option C → Option ℕ → CredSspState → ErrorKind → Type 0
    AfterCode old mid d context noted at kind =
        VersionStopsIn context old.settings.least noted d.version kind (OrMemory kind
        (MadeOr context mid.context (BeginCause c (ForClient old.settings.mode) Outbound (Some old.settings.credentials) kind)
        (StateCause c at d mid kind)))

    abbrev AfterExact : ClientView C → ClientView C → TsRequest → Option C → Option ℕ → CredSspState → ErrorKind → Type 0
    AfterExact old mid d context noted at kind =
        VersionStopsIn context old.settings.least noted d.version kind (MadeOr context mid.context (Unit {0}) (StateExact c at d mid kind))

    cause_after : (old mid : ClientView C) (d : TsRequest) (kind : ErrorKind) → is_waiting_in c old.context ≡ false →
        ClientCause c old d mid kind →
        StopsIf (is_code d.error_code) InvalidToken kind (AfterCode old mid d old.context old.noted old.state kind)
    cause_after old mid d kind idle cause =
        subst (λ (b : Bool). StopsIf b OutOfSequence kind
        (StopsIf (is_code d.error_code) InvalidToken kind (AfterCode old mid d old.context old.noted old.state kind))) idle cause

    exact_after : (old mid : ClientView C) (d : TsRequest) (kind : ErrorKind) → is_waiting_in c old.context ≡ false →
        ClientExact c old d mid kind →
        StopsIf (is_code d.error_code) InvalidToken kind (AfterExact old mid d old.context old.noted old.state kind)
    exact_after old mid d kind idle exact =
        subst (λ (b : Bool). StopsIf b OutOfSequence kind
        (StopsIf (is_code d.error_code) InvalidToken kind (AfterExact old mid d old.context old.noted old.state kind))) idle exact

    nothing_old : (old mid : ClientView C) (d : TsRequest) (result : Result Progress Error) (m : C) → old.context ≡ Some m →
        is_waiting_in c old.context ≡ false → is_code d.error_code ≡ false → HeedsVersion c old d result mid →
        is_old old.settings.least old.noted d.version ≡ true → mid.acts ≡ no_acts
    nothing_old old mid d result m is idle code heeds old_one =
        ap (λ (v : ClientView C). v.acts) (heeds.refuses (record {
          idle = idle;
          code = code;
          old = subst (λ (o : Option C). is_old_in o old.settings.least old.noted d.version ≡ true) (sym is) old_one;
        })).1

    later_refused : (f : ShownFrame) (old mid : ClientView C) (d : TsRequest) (out : Outcome) (result : Result Progress Error)
        (context : Option C) (kind : ErrorKind) → f.looks ≡ true → old.noted ≡ f.noted → old.state ≡ f.state → old.context ≡ context →
        IsSome context → is_waiting_in c old.context ≡ false → is_code d.error_code ≡ false → HeedsVersion c old d result mid →
        AfterCode old mid d context old.noted old.state kind → AfterExact old mid d context old.noted old.state kind →
        StopsIf (differs f.noted d.version) MessageAltered kind
        (FindsOldServer f (client_turn c d out mid) kind ⊎ ClientStateRefuses f (client_turn c d out mid) f.state kind)
    later_refused f old mid d out result None kind looks noted at is some idle code heeds after exact = absurd (cc (some))
    later_refused f old mid d out result (Some m) kind looks noted at is some idle code heeds after exact =
        old_refused f old mid d out f.noted (is_old old.settings.least f.noted d.version) kind looks refl refl
        (λ none old_one. nothing_old old mid d result m is idle code heeds
        (subst (λ (n : Option ℕ). is_old old.settings.least n d.version ≡ true) (sym noted) old_one))
        (subst (λ (n : Option ℕ). AfterCode old mid d (Some m) n f.state kind) noted
        (subst (λ (st : CredSspState). AfterCode old mid d (Some m) old.noted st kind) at after))
        (subst (λ (n : Option ℕ). AfterExact old mid d (Some m) n f.state kind) noted
        (subst (λ (st : CredSspState). AfterExact old mid d (Some m) old.noted st kind) at exact))

    -- in the order in which a client checks
    refused_by : (first old mid : ClientView C) (kdc kdc2 : D) (past : List Turn) (d : TsRequest) (out : Outcome) (error : Error) →
        ClientFollows c first old past → mid.noted ≡ noted_after c old d → ClientTakes c k old kdc d (Err error) mid kdc2 →
        ClientStops (client_before past) (client_turn c d out mid) error.error_type
    refused_by first old mid kdc kdc2 [] d out error follows noted takes =
        stops_on (is_code d.error_code) InvalidToken error.error_type _ _
        (λ code after. inr (first_refused (client_before []) old mid d out (Err error) mid.context error.error_type _ refl refl
        follows.begun (unnoted old mid d follows.begun follows.noted noted) takes.kept
        (λ memory. subst (λ (st : CredSspState). MadeOr {C = C} None mid.context
        (BeginCause c (ForClient old.settings.mode) Outbound (Some old.settings.credentials) error.error_type)
        (StateCause c st d mid error.error_type)) follows.state
        (subst (λ (o : Option C). AfterCode old mid d o old.noted old.state error.error_type) follows.begun after memory))))
        (cause_after old mid d error.error_type follows.idle takes.cause.kind)
    refused_by first old mid kdc kdc2 (t ∷ past) d out error follows noted takes =
        both_on (is_code d.error_code) InvalidToken error.error_type _ _ _
        (λ code after exact. later_refused (client_before (t ∷ past)) old mid d out (Err error) old.context error.error_type refl
        (old_noted first old (t ∷ past) follows) follows.state refl follows.begun follows.idle code takes.heeded after exact)
        (cause_after old mid d error.error_type follows.idle takes.cause.kind)
        (exact_after old mid d error.error_type follows.idle takes.cause.exact)

    -- ---- each turn

    heeds_by : (first old mid : ClientView C) (past : List Turn) (d : TsRequest) (out : Outcome) (result : Result Progress Error) →
        ClientFollows c first old past → ClientKeeps c old d result mid → ClientMoves c old d out mid →
        IfRefused out (ClientRefuses (client_before past) (client_turn c d out mid)) →
        ClientHeeds (client_before past) (client_turn c d out mid)
    heeds_by first old mid past d out result follows keeps moves refused = record {
      told = told_nothing old mid d result follows.idle keeps;
      altered = λ is. altered_nothing old mid d result (is_code d.error_code) refl follows.idle keeps
          (is_altered first old past d.version follows is);
      unanswered = moves.unanswered;
      refused = refused;
    }

    made_heeds : (first old mid : ClientView C) (kdc kdc2 : D) (past : List Turn) (d : TsRequest) (out : Outcome) →
        ClientFollows c first old past → ClientTurn c old d out mid → ClientMakes c k old kdc d out mid kdc2 →
        ClientHeeds (client_before past) (client_turn c d out mid)
    made_heeds first old mid kdc kdc2 past d (outcome.Reply reply) follows turn makes =
        heeds_by first old mid past d (outcome.Reply reply) _ follows makes.kept turn.moves tt
    made_heeds first old mid kdc kdc2 past d (outcome.Final reply) follows turn makes =
        heeds_by first old mid past d (outcome.Final reply) _ follows makes.kept turn.moves tt
    made_heeds first old mid kdc kdc2 past d outcome.Finished follows turn makes = absurd makes
    made_heeds first old mid kdc kdc2 past d (outcome.Refused kind None) follows turn makes =
        heeds_by first old mid past d (outcome.Refused kind None) _ follows makes.2.kept turn.moves (
          turn.moves.ended,
          subst (λ (e : ErrorKind). ClientStops (client_before past) (client_turn c d (outcome.Refused kind None) mid) e) makes.1
              (refused_by first old mid kdc kdc2 past d (outcome.Refused kind None) makes.0 follows turn.moves.noted makes.2),
        )
    made_heeds first old mid kdc kdc2 past d (outcome.Refused kind (Some reply)) follows turn makes = absurd makes

    pub each_client_heeds : (law : IsContext c) (first now : ClientView C) (kdc kdc2 : D) (turns : List Turn) → IsFreshClient first →
        OthersGoOn turns → ClientHistory c k first kdc turns now kdc2 → EachClientHeeds turns
    each_client_heeds law first now kdc kdc2 [] fresh others h = tt
    each_client_heeds law first now kdc kdc2 (t ∷ past) fresh others h =
        let made = h.3 in
        let turn = client_turn_of c law k h.0 made.mid h.1 kdc2 t.delivered t.outcome made.makes in
        let follows = history_follows c law k first h.0 kdc h.1 past fresh others h.2 in (
          subst (λ (x : Turn). ClientHeeds (client_before past) x) (sym made.turn)
              (made_heeds first h.0 made.mid h.1 kdc2 past t.delivered t.outcome follows turn made.makes),
          each_client_heeds law first h.0 kdc h.1 past fresh (others_on past others) h.2,
        )
