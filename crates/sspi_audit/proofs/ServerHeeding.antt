-- What a server of a run heeds, and how it refuses, by its calls.
use Rattle.std.proofs.Common.{◌≡◌, ◌≢◌, ℕ, ◌==◌, inl, inr, List, [], ◌∷◌, length, Option, None, Some, IsSome, Bool, true, false, nat_lt}
use Rattle.std.proofs.Common.{Result, Err, if◌then◌else◌, not, sym, ◌∙◌, ap, subst, refl}
use Rattle.sspi_types.specs.declared.error.Error.{Error}
use Rattle.sspi_types.specs.declared.error_kind.ErrorKind.{ErrorKind}
use Rattle.sspi_types.specs.declared.error_kind.ErrorKind.TheVariants.{DowngradeDetected, InsufficientMemory, InvalidToken, MessageAltered}
use Rattle.sspi_types.specs.declared.security_status.SecurityStatus.{SecurityStatus}
use Rattle.sspi_types.specs.declared.security_status.SecurityStatus.TheVariants as statuses
use Rattle.sspi_mech.specs.Context.{IsContext}
use Rattle.sspi_mech.specs.Meaning.{Meaning}
use Rattle.sspi_tsreq.specs.declared.request.TsRequest.{TsRequest}
use Rattle.sspi_credssp.specs.declared.acts.Acts.{Acts}
use Rattle.sspi_credssp.specs.declared.server_state.ServerError.{ServerError}
use Rattle.sspi_credssp.specs.declared.server_state.ServerState.{ServerState}
use Rattle.sspi_credssp.specs.declared.state.CredSspState.{CredSspState}
use Rattle.sspi_credssp.specs.declared.state.CredSspState.TheVariants as state
use Rattle.sspi_credssp.specs.declared.turn.Outcome.{Outcome}
use Rattle.sspi_credssp.specs.declared.turn.Outcome.TheVariants as outcome
use Rattle.sspi_credssp.specs.declared.turn.Turn.{Turn}
use Rattle.sspi_credssp.specs.Acts.{no_acts}
use Rattle.sspi_credssp.specs.Context.{ContextSetting, MadeOr}
use Rattle.sspi_credssp.specs.Ends.{IsFreshServer, ServerSettings, ServerView}
use Rattle.sspi_credssp.specs.Exchange.{BlobStops}
use Rattle.sspi_credssp.specs.Noted.{OrMemory, ServerHeeds as HeedsVersion, StopsIf, VersionStops, differs, is_old, noted_with}
use Rattle.sspi_credssp.specs.Proxy.{ProxyMeaning}
use Rattle.sspi_credssp.specs.Requests.{version_back}
use Rattle.sspi_credssp.specs.ServerCall.{ServerCall, ServerKeeps}
use Rattle.sspi_credssp.specs.ServerCause.{BlobExact, ExchangeExact, StateExact, MakeCause, NegoCause, OpenedCause, StateCause, UnreadCause, unread}
use Rattle.sspi_credssp.specs.ServerCause.{lacks_nonce}
use Rattle.sspi_credssp.specs.ServerTurn.{ServerMoves, ServerTurn, server_turn}
use Rattle.sspi_credssp.specs.Turn.{AtNoted, ShownFrame, UnlessRefused}
use Rattle.sspi_delegate.specs.History.{ServerHistory, ServerMakes}
use Rattle.sspi_delegate.specs.Turns.{EachServerTurn, IsUnrefused, NoneRefused, OthersUnrefused, ServerEnd, ServerFollows, server_end}
use Rattle.sspi_delegate.specs.Turns.{server_noted}
use Rattle.sspi_delegate.proofs.HistoryRuns.{server_history_follows, server_turn_of}
use Rattle.sspi_audit.specs.Frames.{own_version, server_before, server_note}
use Rattle.sspi_audit.specs.Refusals.{AreUnreadable, OpenedRefused, ProofRefusedBack, ServerRefuses, ServerStateRefuses, ServerStops, TokenRefusedBack}
use Rattle.sspi_audit.specs.Run.{ErrorTells, IfRefused, ServerHeeds, TellsVersion}
use Rattle.sspi_audit.proofs.ClientHeeding.{at_some, blob_on, both_on, stops_on}
use Rattle.sspi_audit.proofs.Runs.{noted_by, server_any, server_told}
use Rattle.sspi_audit.proofs.Unreadable.{unreadable}

-- each turn of a server, after those before it
abbrev pub EachServerHeeds : List Turn → Type 0
EachServerHeeds [] = Unit {0}
EachServerHeeds (t ∷ past) = ServerHeeds (server_before past) t × EachServerHeeds past

others_on : (past : List Turn) → NoneRefused past → OthersUnrefused past
others_on [] none = tt
others_on (t ∷ past) none = none.1

unless_on : (out : Outcome) (P : Type 0) → IsUnrefused out → UnlessRefused out P → P
unless_on (outcome.Reply reply) P goes p = p
unless_on (outcome.Final reply) P goes p = p
unless_on outcome.Finished P goes p = p
unless_on (outcome.Refused kind reply) P goes p = absurd goes

-- the version that decides on a proof's nonce, given what was pinned before the turn
noted_next : (least version : ℕ) (before : Option ℕ) (noted : ℕ) → noted_with least before version ≡ Some noted →
    server_note before version ≡ Some noted
noted_next least version None noted is = noted_by (nat_lt version least) version noted is
noted_next least version (Some before) noted is = is

at_next : (least version : ℕ) (before noted : Option ℕ) (P : ℕ → Type 0) → noted ≡ noted_with least before version → AtNoted noted P →
    AtNoted (server_note before version) P
at_next least version before None P is at = absurd at
at_next least version before (Some noted) P is at =
    subst (λ (n : Option ℕ). AtNoted n P) (sym (noted_next least version before noted (sym is))) at

if_not : (b : Bool) (x y : ℕ) → (if b then x else y) ≡ (if not b then y else x)
if_not true x y = refl
if_not false x y = refl

proof_stops : (lacks : Bool) (kind : ErrorKind) → kind ≡ InvalidToken → StopsIf lacks InvalidToken kind (kind ≡ InvalidToken)
proof_stops true kind is = is
proof_stops false kind is = is

module _ {C : Type 0} (c : Meaning ContextSetting C) where
  -- a server that has made a turn has pinned a version, whatever the least version is
  noted_same : (e : ServerEnd C) (t : Turn) (past : List Turn) → EachServerTurn c e (t ∷ past) → NoneRefused (t ∷ past) →
      (version : ℕ) × (server_noted e.settings.least (t ∷ past) ≡ Some version) × (server_noted 0 (t ∷ past) ≡ Some version)
  noted_same e t past each none =
      let some = at_some (server_noted e.settings.least (t ∷ past)) _ (unless_on t.outcome _ none.0 each.0.shown.version) in
      (some.0, some.1, server_any e.settings.least (t ∷ past) some.0 some.1)

  old_noted : {P : Type 0} (first old : ServerView C P) (past : List Turn) → ServerFollows c first old past →
      old.noted ≡ server_noted 0 past
  old_noted first old [] follows = follows.noted
  old_noted first old (t ∷ past) follows =
      let noted = noted_same (server_end old) t past follows.ran.each follows.unrefused in
      follows.noted ∙ (noted.1 ∙ sym noted.2)

  -- a server has a context from its first turn on
  abbrev Has : Option C → List Turn → Type 0
  Has context [] = context ≡ None
  Has context (t ∷ past) = IsSome context

  -- ---- the kind of a refusal

  module _ {P : Type 0} (p : ProxyMeaning P) where
    token_refused : (f : ShownFrame) (status : Option SecurityStatus) (old : ServerView C P) (d : TsRequest) (mid : ServerView C P)
        (kind : ErrorKind) → NegoCause c p status old d mid kind → TokenRefusedBack f mid.acts status kind
    token_refused f None old d mid kind cause = λ unstepped. absurd (cc (unstepped, cause))
    token_refused f (Some statuses.Ok) old d mid kind cause = tt
    token_refused f (Some statuses.ContinueNeeded) old d mid kind cause = cause
    token_refused f (Some statuses.CompleteNeeded) old d mid kind cause = tt
    token_refused f (Some statuses.CompleteAndContinue) old d mid kind cause = cause
    token_refused f (Some statuses.LocalLogon) old d mid kind cause = cause
    token_refused f (Some statuses.ContextExpired) old d mid kind cause = cause
    token_refused f (Some statuses.IncompleteCredentials) old d mid kind cause = cause
    token_refused f (Some statuses.Renegotiate) old d mid kind cause = cause
    token_refused f (Some statuses.NoLsaContext) old d mid kind cause = cause

    proof_refused : (field : Option (List ℕ)) (noted : ℕ) (d : TsRequest) (mid : ServerView C P) (kind : ErrorKind) →
        ExchangeExact c field (Some noted) d.client_nonce mid kind →
        StopsIf (lacks_nonce (nat_lt noted 5) d.client_nonce) InvalidToken kind (BlobStops field kind (λ blob. Unit {0}))
    proof_refused None noted d mid kind cause = proof_stops (lacks_nonce (nat_lt noted 5) d.client_nonce) kind cause
    proof_refused (Some blob) noted d mid kind cause =
        stops_on (lacks_nonce (nat_lt noted 5) d.client_nonce) InvalidToken kind _ _
        (λ there later. blob_on (Some blob) kind (λ bytes. BlobExact c noted mid.context d.client_nonce bytes mid kind)
        (λ bytes. Unit {0}) (λ bytes more. tt) later) cause

    unread_refused : (m : C) (blob : List ℕ) (kind : ErrorKind) → kind ≢ InsufficientMemory → UnreadCause c m blob kind →
        AreUnreadable kind
    unread_refused m blob kind memory (unread text error opened refused is) =
        subst (λ (e : ErrorKind). AreUnreadable e) (sym is) (unreadable text error refused (λ none. memory (is ∙ none)))

    opened_refused : (opened : Bool) (context : Option C) (blob : List ℕ) (kind : ErrorKind) →
        OrMemory kind (OpenedCause c opened context blob kind) → OpenedRefused opened kind
    opened_refused false context blob kind cause = tt
    opened_refused true None blob kind cause = λ memory. absurd (cause memory)
    opened_refused true (Some m) blob kind cause = λ memory. unread_refused m blob kind memory (cause memory)

    short_refused : (short opened : Bool) (context : Option C) (blob : List ℕ) (kind : ErrorKind) (Exact : Type 0) →
        OrMemory kind (StopsIf short InvalidToken kind (OpenedCause c opened context blob kind)) → StopsIf short InvalidToken kind Exact →
        StopsIf short InvalidToken kind (OpenedRefused opened kind)
    short_refused true opened context blob kind Exact cause exact = exact
    short_refused false opened context blob kind Exact cause exact = opened_refused opened context blob kind cause

    -- where a field is too short, nothing is allocated
    field_refused : (field : Option (List ℕ)) (opened : Bool) (context : Option C) (kind : ErrorKind) (Exact : List ℕ → Type 0) →
        OrMemory kind (BlobStops field kind (λ blob. OpenedCause c opened context blob kind)) → BlobStops field kind Exact →
        BlobStops field kind (λ blob. OpenedRefused opened kind)
    field_refused None opened context kind Exact cause exact = exact
    field_refused (Some blob) opened context kind Exact cause exact =
        short_refused (nat_lt (length blob) 16) opened context blob kind (Exact blob) cause exact

    state_refused : (f : ShownFrame) (noted : ℕ) (old mid : ServerView C P) (d : TsRequest) (out : Outcome) (at : CredSspState)
        (kind : ErrorKind) → f.noted ≡ Some noted → mid.noted ≡ Some noted →
        OrMemory kind (StateCause c p at old d mid kind) → StateExact c at d mid kind →
        ServerStateRefuses f (server_turn c d out mid) at kind
    state_refused f noted old mid d out state.NegoToken kind is now cause exact =
        λ memory. token_refused f mid.acts.status old d mid kind (cause memory)
    state_refused f noted old mid d out state.PubKeyInfo kind is now cause exact =
        subst (λ (n : Option ℕ). ProofRefusedBack n d kind) (sym is) (proof_refused d.pub_key_auth noted d mid kind
        (subst (λ (n : Option ℕ). ExchangeExact c d.pub_key_auth n d.client_nonce mid kind) now exact))
    state_refused f noted old mid d out state.AuthInfo kind is now cause exact =
        field_refused d.auth_info mid.acts.opened mid.context kind _ cause exact
    state_refused f noted old mid d out state.Final kind is now cause exact = exact

    -- in the first turn, once there is a context
    first_looked : (f : ShownFrame) (old mid : ServerView C P) (d : TsRequest) (out : Outcome) (kind : ErrorKind) (least : ℕ)
        (old_one : Bool) → is_old least None d.version ≡ old_one → f.noted ≡ None → (old_one ≡ true → mid.acts ≡ no_acts) →
        StopsIf old_one DowngradeDetected kind (OrMemory kind (StateCause c p state.NegoToken old d mid kind)) →
        ServerStateRefuses f (server_turn c d out mid) state.NegoToken kind
    first_looked f old mid d out kind least true is noted nothing cause = λ memory.
        subst (λ (acts : Acts). TokenRefusedBack f acts acts.status kind) (sym (nothing refl)) (λ unstepped. noted)
    first_looked f old mid d out kind least false is noted nothing cause = λ memory.
        token_refused f mid.acts.status old d mid kind (cause memory)

    -- in the first turn: no context was made, the client's version was too old, or the context took its first step
    first_refused : (f : ShownFrame) (old mid : ServerView C P) (d : TsRequest) (out : Outcome) (error : Error) (reply : Option TsRequest)
        (context : Option C) (least : ℕ) (Unmade : Type 0) → f.noted ≡ None → mid.context ≡ context →
        ServerKeeps c p old d (Err (record { ts_request = reply; error = error })) mid →
        (IsSome mid.context → is_old least None d.version ≡ true → mid.acts ≡ no_acts) →
        MadeOr {C = C} None context Unmade (VersionStops least None d.version error.error_type
        (OrMemory error.error_type (StateCause c p state.NegoToken old d mid error.error_type))) →
        ServerStateRefuses f (server_turn c d out mid) state.NegoToken error.error_type
    first_refused f old mid d out error reply None least Unmade noted none keeps nothing cause =
        let none : mid.acts ≡ no_acts = ap (λ (v : ServerView C P). v.acts) (keeps.unmade none) in
        λ memory. subst (λ (acts : Acts). TokenRefusedBack f acts acts.status error.error_type) (sym none) (λ unstepped. noted)
    first_refused f old mid d out error reply (Some m) least Unmade noted is keeps nothing cause =
        first_looked f old mid d out error.error_type least (is_old least None d.version) refl noted
        (nothing (subst (λ (o : Option C). IsSome o) (sym is) refl)) cause

    abbrev AtContext : ServerView C P → ServerView C P → TsRequest → Option C → Option ℕ → CredSspState → ErrorKind → Type 0
    AtContext old mid d context noted at kind =
        MadeOr context mid.context (OrMemory kind (MakeCause c p old.settings.mode old.proxy mid.proxy kind))
        (VersionStops old.settings.least noted d.version kind (OrMemory kind (StateCause c p at old d mid kind)))

    abbrev AtExact : ServerView C P → ServerView C P → TsRequest → Option C → Option ℕ → CredSspState → ErrorKind → Type 0
    AtExact old mid d context noted at kind =
        MadeOr context mid.context (Unit {0}) (VersionStops old.settings.least noted d.version kind (StateExact c at d mid kind))

    nothing_old : (old mid : ServerView C P) (d : TsRequest) (result : Result ServerState ServerError) → HeedsVersion c old d result mid →
        IsSome mid.context → is_old old.settings.least old.noted d.version ≡ true → mid.acts ≡ no_acts
    nothing_old old mid d result heeds begun old_one =
        ap (λ (v : ServerView C P). v.acts) (heeds.refuses (record { begun = begun; old = old_one })).1

    later_refused : (f : ShownFrame) (noted : ℕ) (old mid : ServerView C P) (d : TsRequest) (out : Outcome) (context : Option C)
        (kind : ErrorKind) → f.noted ≡ Some noted → old.noted ≡ Some noted → mid.noted ≡ Some noted → old.state ≡ f.state →
        IsSome context → AtContext old mid d context old.noted old.state kind →
        AtExact old mid d context old.noted old.state kind → ServerStops f (server_turn c d out mid) kind
    later_refused f noted old mid d out None kind is was now at some cause exact = absurd (cc (some))
    later_refused f noted old mid d out (Some m) kind is was now at some cause exact =
        subst (λ (n : Option ℕ). StopsIf (differs n d.version) MessageAltered kind
        (ServerStateRefuses f (server_turn c d out mid) f.state kind)) (sym is)
        (both_on (differs (Some noted) d.version) MessageAltered kind _ _ _
        (λ same later too. state_refused f noted old mid d out f.state kind is now later too)
        (subst (λ (n : Option ℕ). AtContext old mid d (Some m) n f.state kind) was
        (subst (λ (st : CredSspState). AtContext old mid d (Some m) old.noted st kind) at cause))
        (subst (λ (n : Option ℕ). AtExact old mid d (Some m) n f.state kind) was
        (subst (λ (st : CredSspState). AtExact old mid d (Some m) old.noted st kind) at exact)))

    -- in the order in which a server checks
    refused_by : (first old mid : ServerView C P) (past : List Turn) (d : TsRequest) (out : Outcome) (error : Error)
        (reply : Option TsRequest) → ServerFollows c first old past → Has old.context past → ServerMoves c old d out mid →
        ServerCall c p old d (Err (record { ts_request = reply; error = error })) mid →
        ServerStops (server_before past) (server_turn c d out mid) error.error_type
    refused_by first old mid [] d out error reply follows begun moves call =
        first_refused (server_before []) old mid d out error reply mid.context old.settings.least _ refl refl call.kept
        (λ there old_one. nothing_old old mid d _ call.heeded there
        (subst (λ (n : Option ℕ). is_old old.settings.least n d.version ≡ true) (sym follows.noted) old_one))
        (subst (λ (n : Option ℕ). AtContext old mid d None n state.NegoToken error.error_type) follows.noted
        (subst (λ (st : CredSspState). AtContext old mid d None old.noted st error.error_type) follows.state
        (subst (λ (o : Option C). AtContext old mid d o old.noted old.state error.error_type) begun call.cause.kind)))
    refused_by first old mid (t ∷ past) d out error reply follows begun moves call =
        let noted = noted_same (server_end old) t past follows.ran.each follows.unrefused in
        let was : old.noted ≡ Some noted.0 = follows.noted ∙ noted.1 in
        later_refused (server_before (t ∷ past)) noted.0 old mid d out old.context error.error_type noted.2 was
        (moves.noted (moves.handle begun).1 ∙ ap (λ (n : Option ℕ). noted_with old.settings.least n d.version) was) follows.state begun call.cause.kind call.exact

    -- ---- the version of an error request

    told_version : (context : Option C) (noted version own told : ℕ) → IsSome context →
        told ≡ version_back context (Some noted) version own → told ≡ (if differs (Some noted) version then version else own)
    told_version None noted version own told some is = absurd (cc (some))
    told_version (Some m) noted version own told some is = is ∙ if_not (noted == version) own version

    tells_by : (law : IsContext c) (first old mid : ServerView C P) (past : List Turn) (d : TsRequest) (kind : ErrorKind)
        (reply : TsRequest) → ServerFollows c first old past → Has old.context past →
        ServerTurn c old d (outcome.Refused kind (Some reply)) mid →
        TellsVersion (own_version past) (server_noted 0 past) d.version reply.version
    tells_by law first old mid [] d kind reply follows begun turn = tt
    tells_by law first old mid (t ∷ past) d kind reply follows begun turn =
        let noted = noted_same (server_end old) t past follows.ran.each follows.unrefused in
        let there : IsSome mid.context = (turn.moves.handle begun).1 in
        let now : mid.noted ≡ Some noted.0 =
        turn.moves.noted there ∙ ap (λ (n : Option ℕ). noted_with old.settings.least n d.version) (follows.noted ∙ noted.1) in
        let told = told_version mid.context noted.0 d.version mid.settings.version reply.version there
        (subst (λ (n : Option ℕ). reply.version ≡ version_back mid.context n d.version mid.settings.version) now
        turn.turn.held.reply) in
        elim (server_told c law (server_end old) (t ∷ past) follows.ran.each) [
          | inl none ↦ subst (λ (own : Option ℕ). TellsVersion own (server_noted 0 (t ∷ past)) d.version reply.version) (sym none) tt
          | inr own ↦
              subst (λ (o : Option ℕ). TellsVersion o (server_noted 0 (t ∷ past)) d.version reply.version) (sym own)
              (subst (λ (n : Option ℕ). reply.version ≡ (if differs n d.version then d.version else old.settings.version)) (sym noted.2)
              (subst (λ (s : ServerSettings). reply.version ≡ (if differs (Some noted.0) d.version then d.version else s.version))
              turn.moves.same told))
        ]

    -- ---- each turn

    heeds_by : (first old mid : ServerView C P) (past : List Turn) (d : TsRequest) (out : Outcome)
        (result : Result ServerState ServerError) → ServerFollows c first old past → ServerTurn c old d out mid →
        ServerKeeps c p old d result mid → IfRefused out (ServerRefuses (server_before past) (server_turn c d out mid)) →
        ErrorTells (server_before past) d out → ServerHeeds (server_before past) (server_turn c d out mid)
    heeds_by first old mid past d out result follows turn keeps refused tells =
        let noted = old_noted first old past follows in
        record {
          altered = λ is. ap (λ (v : ServerView C P). v.acts)
              (keeps.altered (subst (λ (n : Option ℕ). differs n d.version ≡ true) (sym noted) is)).1;
          unanswered = turn.moves.unanswered;
          checked = λ is. at_next old.settings.least d.version (server_noted 0 past) mid.noted _
              (turn.moves.noted_checked is ∙ ap (λ (n : Option ℕ). noted_with old.settings.least n d.version) noted)
              (turn.turn.held.checked is);
          refused = refused;
          tells = tells;
        }

    made_heeds : (law : IsContext c) (first old mid : ServerView C P) (past : List Turn) (d : TsRequest) (out : Outcome) →
        ServerFollows c first old past → Has old.context past → ServerTurn c old d out mid → ServerMakes c p old d out mid →
        ServerHeeds (server_before past) (server_turn c d out mid)
    made_heeds law first old mid past d (outcome.Reply reply) follows begun turn makes =
        heeds_by first old mid past d (outcome.Reply reply) _ follows turn makes.kept tt tt
    made_heeds law first old mid past d (outcome.Final reply) follows begun turn makes = absurd makes
    made_heeds law first old mid past d outcome.Finished follows begun turn makes =
        heeds_by first old mid past d outcome.Finished _ follows turn makes.1.kept tt tt
    made_heeds law first old mid past d (outcome.Refused kind None) follows begun turn makes =
        heeds_by first old mid past d (outcome.Refused kind None) _ follows turn makes.2.kept (
          turn.moves.ended,
          subst (λ (e : ErrorKind). ServerStops (server_before past) (server_turn c d (outcome.Refused kind None) mid) e) makes.1
              (refused_by first old mid past d (outcome.Refused kind None) makes.0 None follows begun turn.moves makes.2),
        ) tt
    made_heeds law first old mid past d (outcome.Refused kind (Some reply)) follows begun turn makes =
        heeds_by first old mid past d (outcome.Refused kind (Some reply)) _ follows turn makes.2.kept (
          turn.moves.ended,
          subst (λ (e : ErrorKind). ServerStops (server_before past) (server_turn c d (outcome.Refused kind (Some reply)) mid) e) makes.1
              (refused_by first old mid past d (outcome.Refused kind (Some reply)) makes.0 (Some reply) follows begun turn.moves makes.2),
        )
        (tells_by law first old mid past d kind reply follows begun turn)

    begun_by : (law : IsContext c) (first now : ServerView C P) (turns : List Turn) → IsFreshServer first → NoneRefused turns →
        ServerHistory c p first turns now → Has now.context turns
    begun_by law first now [] fresh none h = subst (λ (v : ServerView C P). v.context ≡ None) (sym h) fresh.context
    begun_by law first now (t ∷ past) fresh none h =
        let made = h.2 in
        let turn = server_turn_of c law p h.0 made.mid t.delivered t.outcome made.makes in
        subst (λ (v : ServerView C P). IsSome v.context) (sym made.rest) (unless_on t.outcome _ none.0 turn.moves.begun)

    pub each_server_heeds : (law : IsContext c) (first now : ServerView C P) (turns : List Turn) → IsFreshServer first →
        OthersUnrefused turns → ServerHistory c p first turns now → EachServerHeeds turns
    each_server_heeds law first now [] fresh others h = tt
    each_server_heeds law first now (t ∷ past) fresh others h =
        let made = h.2 in
        let turn = server_turn_of c law p h.0 made.mid t.delivered t.outcome made.makes in
        let follows = server_history_follows c law p first h.0 past fresh others h.1 in (
          subst (λ (x : Turn). ServerHeeds (server_before past) x) (sym made.turn)
              (made_heeds law first h.0 made.mid past t.delivered t.outcome follows (begun_by law first h.0 past fresh others h.1) turn
              made.makes),
          each_server_heeds law first h.0 past fresh (others_on past others) h.1,
        )
