-- What a server sealed and opened, turn by turn.
use Rattle.std.proofs.Common.{◌≡◌, ℕ, ◌⊎◌, inl, inr, Bool, true, false, ◌&&◌, ◌||◌, List, [], ◌∷◌, ◌++◌, length, Option}
use Rattle.std.proofs.Common.{None, Some, sym, ◌∙◌, ap, subst, refl, append_assoc, if◌then◌else◌}
use Rattle.sspi_types.specs.declared.security_status.SecurityStatus.{SecurityStatus}
use Rattle.sspi_types.specs.declared.security_status.SecurityStatus.TheVariants as statuses
use Rattle.sspi_mech.specs.Meaning.{Meaning}
use Rattle.sspi_tsreq.specs.declared.request.TsRequest.{TsRequest}
use Rattle.sspi_credssp.specs.declared.public_key.EndpointType.TheVariants as whose
use Rattle.sspi_credssp.specs.declared.state.CredSspState.{CredSspState}
use Rattle.sspi_credssp.specs.declared.state.CredSspState.TheVariants.{NegoToken, PubKeyInfo, AuthInfo, Final}
use Rattle.sspi_credssp.specs.declared.turn.End.{End}
use Rattle.sspi_credssp.specs.declared.turn.End.TheVariants.{Client, Server}
use Rattle.sspi_credssp.specs.declared.turn.Outcome.{Outcome}
use Rattle.sspi_credssp.specs.declared.turn.Outcome.TheVariants as outcome
use Rattle.sspi_credssp.specs.declared.turn.Turn.{Turn}
use Rattle.sspi_credssp.specs.Context.{ContextSetting}
use Rattle.sspi_credssp.specs.Acts.{OpensIn}
use Rattle.sspi_credssp.specs.Exchange.{prescribed}
use Rattle.sspi_credssp.specs.Requests.{nonce_of, IsLong}
use Rattle.sspi_credssp.specs.Turn.{server_shown, IsOver, MayCheck, HasNonce, ShowsServerActs, ShowsOver, ShowsNegoBack, ShowsStateBack}
use Rattle.sspi_credssp.specs.Turn.{ShowsAnswer, ServerFrame, AtNoted, Proven}
use Rattle.sspi_delegate.specs.Turns.{onto_server, server_turns, is_replied, is_finished, any_proved, any_finished, IsUnrefused}
use Rattle.sspi_delegate.specs.Turns.{NoneRefused}
use Rattle.sspi_delegate.specs.Turns.{ServerEnd, any_over, server_state, server_noted, server_frame_at, EachServerTurn, opened_in}
use Rattle.sspi_play.specs.Agreement.{TurnOf}
use Rattle.sspi_play.specs.Faithful.{server_texts, server_sealed, HaveOpened}
use Rattle.sspi_play.proofs.ClientSeals.{is_false, or_false, and_not}
use Rattle.sspi_play.proofs.Opened.{NoneOpened, opened_nothing, opens_proof, opens_credentials}
use Rattle.sspi_play.proofs.Parts.{server_more, server_skip}

state_auth : (finished proved over : Bool) →
    (if finished then Final else (if proved then AuthInfo else (if over then PubKeyInfo else NegoToken))) ≡ AuthInfo →
    (finished ≡ false) × (proved ≡ true)
state_auth true proved over h = absurd (cc (h))
state_auth false true over h = (refl, refl)
state_auth false false true h = absurd (cc (h))
state_auth false false false h = absurd (cc (h))

-- the version at which a fact of the pinned one holds
pub at_some : (noted : Option ℕ) (P : ℕ → Type 0) → AtNoted noted P → (v : ℕ) × (noted ≡ Some v)
at_some None P h = absurd h
at_some (Some v) P h = (v, refl)

pub at_version : (noted : Option ℕ) (version : ℕ) (P : ℕ → Type 0) → noted ≡ Some version → AtNoted noted P → P version
at_version noted version P is h = let at : AtNoted (Some version) P = subst (λ (o : Option ℕ). AtNoted o P) is h in at

-- a nonce that is present has 32 octets, from version 5 on
pub nonce_length : (old : Bool) (sent : Option (List ℕ)) → old ≡ false → HasNonce old sent → length (nonce_of sent) ≡ 32
nonce_length true sent is h = absurd (cc (is))
nonce_length false None is h = absurd h
nonce_length false (Some nonce) is h = h

module _ {C : Type 0} (c : Meaning ContextSetting C) (s : ServerEnd C) where
  -- ---- one turn

  -- a reply to a turn that checked has the server's proof
  over_proves : (f : ServerFrame C) (t : Turn) (field : Option (List ℕ)) (reply : TsRequest) → IsLong field →
      ShowsOver (server_shown f) t field reply → t.acts.proved ≡ true
  over_proves f t None reply long h = absurd long
  over_proves f t (Some blob) reply long h = h.proved

  nego_proves : (f : ServerFrame C) (t : Turn) (status : Option SecurityStatus) (reply : TsRequest) → IsOver status →
      IsLong t.delivered.pub_key_auth →
      ShowsNegoBack (server_shown f) t status reply → t.acts.proved ≡ true
  nego_proves f t None reply over long h = absurd over
  nego_proves f t (Some statuses.Ok) reply over long h = over_proves f t t.delivered.pub_key_auth reply long h
  nego_proves f t (Some statuses.CompleteNeeded) reply over long h = over_proves f t t.delivered.pub_key_auth reply long h
  nego_proves f t (Some other) reply over long h = absurd over

  state_proves : (f : ServerFrame C) (t : Turn) (state : CredSspState) (reply : TsRequest) → MayCheck state t.acts.status →
      IsLong t.delivered.pub_key_auth →
      ShowsStateBack (server_shown f) t state reply → t.acts.proved ≡ true
  state_proves f t NegoToken reply may long h = nego_proves f t t.acts.status reply may long h
  state_proves f t PubKeyInfo reply may long h = h.proved
  state_proves f t AuthInfo reply may long h = absurd may
  state_proves f t Final reply may long h = absurd may

  pub check_alone : (f : ServerFrame C) (t : Turn) → ShowsServerActs (server_shown f) t → t.acts.checked ≡ true → t.acts.opened ≡ false
  check_alone f t acts was = is_false t.acts.opened (λ opened.
      subst (λ (state : CredSspState). MayCheck state t.acts.status) (acts.opened opened).0 (acts.checked was).0)

  pub open_alone : (f : ServerFrame C) (t : Turn) → ShowsServerActs (server_shown f) t → t.acts.opened ≡ true → t.acts.checked ≡ false
  open_alone f t acts was = is_false t.acts.checked (λ checked. let n = check_alone f t acts checked in absurd (cc (n, was)))

  -- in the state in which credentials are opened, no proof is checked
  auth_unchecked : (f : ServerFrame C) (t : Turn) → ShowsServerActs (server_shown f) t → f.state ≡ AuthInfo → t.acts.checked ≡ false
  auth_unchecked f t acts auth = is_false t.acts.checked (λ checked.
      subst (λ (state : CredSspState). MayCheck state t.acts.status) auth (acts.checked checked).0)

  -- a turn that was not refused, and sent no proof, checked none
  unproved_unchecked : (f : ServerFrame C) (t : Turn) (out : Outcome) → ShowsServerActs (server_shown f) t →
      ShowsAnswer (server_shown f) t out → IsUnrefused out →
      is_replied out && t.acts.proved ≡ false → t.acts.checked ≡ false
  unproved_unchecked f t (outcome.Reply reply) acts h un unproved = is_false t.acts.checked (λ was.
      let p = state_proves f t f.state reply (acts.checked was).0 (acts.checked was).1 h in absurd (cc (p, unproved)))
  unproved_unchecked f t (outcome.Final reply) acts h un unproved = absurd h
  unproved_unchecked f t outcome.Finished acts h un unproved = auth_unchecked f t acts h.0
  unproved_unchecked f t (outcome.Refused kind reply) acts h un unproved = absurd un

  unauthorized : (past : List Turn) → any_proved past ≡ false → server_state past ≡ AuthInfo → ⊥
  unauthorized past none auth =
      let p = (state_auth (any_finished past) (any_proved past) (any_over past) auth).1 in absurd (cc (none, p))

  -- ---- the turns before the one that proved

  -- they have opened nothing
  pub nothing_opened : (past : List Turn) → EachServerTurn c s past → NoneRefused past → any_proved past ≡ false → NoneOpened past
  nothing_opened [] each un none = tt
  nothing_opened (t ∷ past) each un none =
      let p = or_false (is_replied t.outcome && t.acts.proved) (any_proved past) none in
      let f = server_frame_at s past t in
      let unopened : t.acts.opened ≡ false = is_false t.acts.opened (λ was. unauthorized past p.1 (each.0.shown.acts.opened was).0) in
      let unchecked = unproved_unchecked f t t.outcome each.0.shown.acts each.0.shown.reply un.0 p.0 in
      (unchecked, unopened, nothing_opened past each.1 un.1 p.1)

  -- the turn that proved opened the client's proof, and nothing else was opened before
  pub opened_by_proof : (past : List Turn) (t : Turn) → EachServerTurn c s (t ∷ past) → NoneRefused past → any_proved past ≡ false →
      t.acts.proved ≡ true → (text : List ℕ) → OpensIn c s.context (opened_in past) t.delivered.pub_key_auth text →
      HaveOpened c s.context (t ∷ past) (text ∷ [])
  opened_by_proof past t each un none was text opens =
      let f = server_frame_at s past t in
      let checked = (each.0.shown.acts.proved was).0 in (
        [],
        opened_nothing c s.context past (nothing_opened past each.1 un none),
        opens_proof c s.context t (opened_in past) [] text checked (check_alone f t each.0.shown.acts checked) opens,
      )

  -- the text that it opened is that of a client's proof, over its own key and the delivered nonce
  pub proven_at : (past : List Turn) (t : Turn) (version : ℕ) → EachServerTurn c s (t ∷ past) → t.acts.proved ≡ true →
      server_noted s.settings.least (t ∷ past) ≡ Some version →
      Proven c s.context (opened_in past) s.settings.public_key t.delivered version
  proven_at past t version each was noted = at_version (server_noted s.settings.least (t ∷ past)) version
      (Proven c s.context (opened_in past) s.settings.public_key t.delivered) noted (each.0.held.proved was)

  -- ---- the first text that a server sealed

  abbrev NoneProved : List Turn → Type 0
  NoneProved [] = Unit {0}
  NoneProved (t ∷ past) = (t.acts.proved ≡ false) × NoneProved past

  none_any : (past : List Turn) → NoneProved past → any_proved past ≡ false
  none_any [] none = refl
  none_any (t ∷ past) none = rw (none.0, none_any past none.1) (and_not (is_replied t.outcome))

  pub record ServerProof (turns : List Turn) : Type 0 where
    pub at : TurnOf turns
    pub end : at.turn.end ≡ Server
    pub proved : at.turn.acts.proved ≡ true
    pub none : any_proved (server_turns at.before) ≡ false
    pub version : ℕ
    pub noted : server_noted s.settings.least (at.turn ∷ server_turns at.before) ≡ Some version
    pub more : List (List ℕ)
    pub first : server_sealed s (server_turns turns)
        ≡ more ++ (prescribed whose.Server version (nonce_of at.turn.delivered.client_nonce) s.settings.public_key ∷ [])

  abbrev pub ServerProofIn : List Turn → Type 0
  ServerProofIn turns = (NoneProved (server_turns turns) × (server_sealed s (server_turns turns) ≡ [])) ⊎ ServerProof turns

  abbrev turn_on : (t : Turn) (past : List Turn) → TurnOf past → TurnOf (t ∷ past)
  turn_on t past at = record { later = t ∷ at.later; turn = at.turn; before = at.before; parts = ap (λ (l : List Turn). t ∷ l) at.parts }

  proof_on : (t : Turn) (past : List Turn) → t.end ≡ Server → ServerProof past → ServerProof (t ∷ past)
  proof_on t past is p = record {
    at = turn_on t past p.at;
    end = p.end;
    proved = p.proved;
    none = p.none;
    version = p.version;
    noted = p.noted;
    more = server_texts s (server_turns past) t ++ p.more;
    first = rw (server_more t past is) (ap (λ (l : List (List ℕ)). server_texts s (server_turns past) t ++ l) p.first
        ∙ sym (append_assoc (server_texts s (server_turns past) t) p.more
        (prescribed whose.Server p.version (nonce_of p.at.turn.delivered.client_nonce) s.settings.public_key ∷ [])));
  }

  proof_over : (t : Turn) (past : List Turn) → t.end ≡ Client → ServerProof past → ServerProof (t ∷ past)
  proof_over t past is p = record {
    at = turn_on t past p.at;
    end = p.end;
    proved = p.proved;
    none = p.none;
    version = p.version;
    noted = p.noted;
    more = p.more;
    first = rw (server_skip t past is) p.first;
  }

  pub proof_alone : (t : Turn) (past : List Turn) (version : ℕ) → t.acts.proved ≡ true →
      server_noted s.settings.least (t ∷ past) ≡ Some version →
      server_sealed s past ≡ [] →
      server_sealed s (t ∷ past) ≡ prescribed whose.Server version (nonce_of t.delivered.client_nonce) s.settings.public_key ∷ []
  proof_alone t past version was noted nothing = rw (was, noted, nothing) refl

  proof_of : (t : Turn) (past : List Turn) (proved : Bool) → t.end ≡ Server → EachServerTurn c s (t ∷ server_turns past) →
      NoneProved (server_turns past) →
      server_sealed s (server_turns past) ≡ [] → t.acts.proved ≡ proved → ServerProofIn (t ∷ past)
  proof_of t past true is each none nothing was =
      let v = at_some (server_noted s.settings.least (t ∷ server_turns past)) _ (each.0.shown.acts.proved was).1 in
      inr (record {
        at = record { later = []; turn = t; before = past; parts = refl };
        end = is;
        proved = was;
        none = none_any (server_turns past) none;
        version = v.0;
        noted = v.1;
        more = [];
        first = ap (λ (l : List Turn). server_sealed s l) (server_more t past is) ∙ proof_alone t (server_turns past) v.0 was v.1 nothing;
      })
  proof_of t past false is each none nothing was = inl (rw (server_more t past is) (was, none), rw (server_more t past is) (rw was nothing))

  server_proof_by : (t : Turn) (past : List Turn) (end : End) → t.end ≡ end → EachServerTurn c s (onto_server end t (server_turns past)) →
      ServerProofIn past → ServerProofIn (t ∷ past)
  server_proof_by t past Client is each (inl none) = inl (rw (server_skip t past is) none.0, rw (server_skip t past is) none.1)
  server_proof_by t past Client is each (inr p) = inr (proof_over t past is p)
  server_proof_by t past Server is each (inl none) = proof_of t past t.acts.proved is each none.0 none.1 refl
  server_proof_by t past Server is each (inr p) = inr (proof_on t past is p)

  each_before : (end : End) (t : Turn) (past : List Turn) → EachServerTurn c s (onto_server end t past) → EachServerTurn c s past
  each_before Client t past each = each
  each_before Server t past each = each.1

  pub server_proof : (turns : List Turn) → EachServerTurn c s (server_turns turns) → ServerProofIn turns
  server_proof [] each = inl (tt, refl)
  server_proof (t ∷ past) each = server_proof_by t past t.end refl each (server_proof past (each_before t.end t (server_turns past) each))

  -- ---- a server that finishes

  -- the turn before the one that finished is the one that proved
  unproved_yet : (past : List Turn) (state : CredSspState) → server_state past ≡ state → (state ≡ AuthInfo → ⊥) →
      any_finished past ≡ false → any_proved past ≡ false
  unproved_yet past state is never finished = is_false (any_proved past) (λ was. never (sym is ∙ (rw (finished, was) refl)))

  not_auth : (f : ServerFrame C) (t : Turn) (state : CredSspState) (reply : TsRequest) → ShowsStateBack (server_shown f) t state reply →
      state ≡ AuthInfo → ⊥
  not_auth f t NegoToken reply h is = absurd (cc (is))
  not_auth f t PubKeyInfo reply h is = absurd (cc (is))
  not_auth f t AuthInfo reply h is = absurd h
  not_auth f t Final reply h is = absurd (cc (is))

  before_reply : (past : List Turn) (t : Turn) (out : Outcome) → ShowsAnswer (server_shown (server_frame_at s past t)) t out →
      IsUnrefused out → is_finished out ≡ false →
      any_finished past ≡ false → any_proved past ≡ false
  before_reply past t (outcome.Reply reply) h un unfinished finished =
      unproved_yet past (server_state past) refl (not_auth (server_frame_at s past t) t (server_state past) reply h) finished
  before_reply past t (outcome.Final reply) h un unfinished finished = absurd h
  before_reply past t outcome.Finished h un unfinished finished = absurd (cc (unfinished))
  before_reply past t (outcome.Refused kind reply) h un unfinished finished = absurd un

  and_proved : (replied proved rest : Bool) → (replied && proved) || rest ≡ true → rest ≡ false → proved ≡ true
  and_proved true true rest h none = refl
  and_proved true false rest h none = absurd (cc (h, none))
  and_proved false proved rest h none = absurd (cc (h, none))

  pub proved_newest : (past : List Turn) (t : Turn) → EachServerTurn c s (t ∷ past) → NoneRefused (t ∷ past) →
      server_state (t ∷ past) ≡ AuthInfo → (any_proved past ≡ false) × (t.acts.proved ≡ true)
  proved_newest past t each un auth =
      let k = state_auth (any_finished (t ∷ past)) (any_proved (t ∷ past)) (any_over (t ∷ past)) auth in
      let fin = or_false (is_finished t.outcome) (any_finished past) k.0 in
      let none = before_reply past t t.outcome each.0.shown.reply un.0 fin.0 fin.1 in
      (none, and_proved (is_replied t.outcome) t.acts.proved (any_proved past) k.1 none)

  -- it opened one text, the client's proof
  pub one_opened : (past : List Turn) → EachServerTurn c s past → NoneRefused past → server_state past ≡ AuthInfo → (y : List ℕ) ×
      HaveOpened c s.context past (y ∷ [])
  one_opened [] each un auth = absurd (cc (auth))
  one_opened (t ∷ past) each un auth =
      let newest = proved_newest past t each un auth in
      let was = newest.1 in
      let v = at_some (server_noted s.settings.least (t ∷ past)) _ (each.0.shown.acts.proved was).1 in
      let text = prescribed whose.Client v.0 (nonce_of t.delivered.client_nonce) s.settings.public_key in
      (text, opened_by_proof past t each un.1 newest.0 was text (proven_at past t v.0 each was v.1).opens)

  -- and then the credentials
  pub opened_at_end : (past : List Turn) (t : Turn) (before : List (List ℕ)) (text : List ℕ) → t.acts.checked ≡ false →
      t.acts.opened ≡ true → HaveOpened c s.context past before → OpensIn c s.context (opened_in past) t.delivered.auth_info text →
      HaveOpened c s.context (t ∷ past) (text ∷ before)
  opened_at_end past t before text unchecked was so_far opens =
      (before, so_far, opens_credentials c s.context t (opened_in past) before text unchecked was opens)
