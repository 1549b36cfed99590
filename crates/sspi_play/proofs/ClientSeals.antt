-- What a client sealed and opened, turn by turn.
use Rattle.std.proofs.Common.{◌≡◌, ◌≤◌, ℕ, ◌⊎◌, inl, inr, Bool, true, false, ◌&&◌, ◌||◌, List, [], ◌∷◌, ◌++◌, length}
use Rattle.std.proofs.Common.{Option, None, Some, IsSome, Result, Ok, Err, sym, ◌∙◌, ap, refl, arith, append_assoc}
use Rattle.std.proofs.Common.{length-append, if◌then◌else◌}
use Rattle.sspi_types.specs.declared.error.Error.{Error}
use Rattle.sspi_types.specs.declared.security_status.SecurityStatus.{SecurityStatus}
use Rattle.sspi_types.specs.declared.security_status.SecurityStatus.TheVariants as statuses
use Rattle.sspi_mech.specs.Meaning.{Meaning}
use Rattle.sspi_tsreq.specs.declared.request.TsRequest.{TsRequest}
use Rattle.sspi_credssp.specs.declared.public_key.EndpointType.TheVariants as whose
use Rattle.sspi_credssp.specs.declared.state.CredSspState.TheVariants.{NegoToken, AuthInfo, Final}
use Rattle.sspi_credssp.specs.declared.turn.End.{End}
use Rattle.sspi_credssp.specs.declared.turn.End.TheVariants.{Client, Server}
use Rattle.sspi_credssp.specs.declared.turn.Outcome.{Outcome}
use Rattle.sspi_credssp.specs.declared.turn.Outcome.TheVariants as outcome
use Rattle.sspi_credssp.specs.declared.turn.Turn.{Turn}
use Rattle.sspi_credssp.specs.Acts.{OpensIn}
use Rattle.sspi_credssp.specs.Context.{ContextSetting}
use Rattle.sspi_credssp.specs.Exchange.{delegated_text, prescribed}
use Rattle.sspi_credssp.specs.Turn.{client_shown, ShowsClientActs, ShowsNego, ShowsReply, ClientFrame}
use Rattle.sspi_delegate.specs.Turns.{ClientEnd, client_noted, client_frame_at, EachClientTurn, made_in, opened_in}
use Rattle.sspi_delegate.specs.Turns.{onto_client, client_turns, is_replied, is_ended, any_proved, any_ended, OthersGoOn, GoesOn, AllGoOn}
use Rattle.sspi_play.specs.Agreement.{TurnOf, HasSealed}
use Rattle.sspi_play.specs.Faithful.{where_done, proof_text, client_texts, client_sealed, HaveOpened}
use Rattle.sspi_play.proofs.Lists.{head_of_two, two_are_more}
use Rattle.sspi_play.proofs.Opened.{NoneOpened, opened_nothing, opens_proof}
use Rattle.sspi_play.proofs.Parts.{client_more, client_skip}

pub is_false : (b : Bool) → (b ≡ true → ⊥) → b ≡ false
is_false true refuted = absurd (refuted refl)
is_false false refuted = refl

pub or_false : (a b : Bool) → a || b ≡ false → (a ≡ false) × (b ≡ false)
or_false true b h = absurd (cc (h))
or_false false b h = (refl, h)

pub and_not : (a : Bool) → (a && false) || false ≡ false
and_not true = refl
and_not false = refl

pub some_there : (o : Option ℕ) → IsSome o → (v : ℕ) × (o ≡ Some v)
some_there None some = absurd (cc (some))
some_there (Some v) some = (v, refl)

pub state_auth : (ended proved : Bool) → (if ended then Final else (if proved then AuthInfo else NegoToken)) ≡ AuthInfo → (ended ≡ false) ×
    (proved ≡ true)
state_auth true proved h = absurd (cc (h))
state_auth false true h = (refl, refl)
state_auth false false h = absurd (cc (h))

pub state_nego : (ended proved : Bool) → (if ended then Final else (if proved then AuthInfo else NegoToken)) ≡ NegoToken → (ended ≡ false) ×
    (proved ≡ false)
state_nego true proved h = absurd (cc (h))
state_nego false true h = absurd (cc (h))
state_nego false false h = (refl, refl)

proof_few : (end : _) (noted : Option ℕ) (nonce key : List ℕ) → length (proof_text end noted nonce key) ≤ 1
proof_few end None nonce key = omega arith
proof_few end (Some version) nonce key = omega arith

module _ {C : Type 0} (c : Meaning ContextSetting C) (e : ClientEnd C) where
  -- ---- one turn

  checked_auth : (f : ClientFrame C) (t : Turn) → ShowsClientActs (client_shown f) t → t.acts.sealed ≡ true → f.state ≡ AuthInfo
  checked_auth f t acts was = (acts.checked (acts.sealed was)).0

  pub proved_nego : (f : ClientFrame C) (t : Turn) → ShowsClientActs (client_shown f) t → t.acts.proved ≡ true → f.state ≡ NegoToken
  proved_nego f t acts was =
      let answered : IsSome t.acts.status = rw (acts.proved was).0 refl in acts.negotiated (acts.answered answered)

  pub reply_nego : (f : ClientFrame C) (t : Turn) (status : Option SecurityStatus) (reply : TsRequest) →
      ShowsNego (client_shown f) t status reply → f.state ≡ NegoToken
  reply_nego f t None reply h = absurd h
  reply_nego f t (Some statuses.Ok) reply h = h.state
  reply_nego f t (Some other) reply h = h.state

  -- a turn that went on, and was not the last, was one of the authentication
  pub went_nego : (f : ClientFrame C) (t : Turn) (out : Outcome) → ShowsReply (client_shown f) t out → GoesOn out → is_ended out ≡ false →
      f.state ≡ NegoToken
  went_nego f t (outcome.Reply reply) h went un = reply_nego f t t.acts.status reply h
  went_nego f t (outcome.Final reply) h went un = absurd (cc (un))
  went_nego f t outcome.Finished h went un = absurd went
  went_nego f t (outcome.Refused kind reply) h went un = absurd went

  went_proved : (out : Outcome) (proved : Bool) → GoesOn out → is_ended out ≡ false → is_replied out && proved ≡ false → proved ≡ false
  went_proved (outcome.Reply reply) proved went un h = h
  went_proved (outcome.Final reply) proved went un h = absurd (cc (un))
  went_proved outcome.Finished proved went un h = absurd went
  went_proved (outcome.Refused kind reply) proved went un h = absurd went

  unchecked : (f : ClientFrame C) (t : Turn) → ShowsClientActs (client_shown f) t → f.state ≡ NegoToken → t.acts.checked ≡ false
  unchecked f t acts nego = is_false t.acts.checked (λ was. let s = (acts.checked was).0 in absurd (cc (s, nego)))

  pub unsealed : (f : ClientFrame C) (t : Turn) → ShowsClientActs (client_shown f) t → f.state ≡ NegoToken → t.acts.sealed ≡ false
  unsealed f t acts nego = is_false t.acts.sealed (λ was. let s = checked_auth f t acts was in absurd (cc (s, nego)))

  -- ---- the turns before one that checked, or that sealed

  -- before a client has ended, it has opened nothing
  pub nothing_opened : (past : List Turn) → EachClientTurn c e past → AllGoOn past → any_ended past ≡ false → NoneOpened past
  nothing_opened [] each went un = tt
  nothing_opened (t ∷ past) each went un =
      let s = or_false (is_ended t.outcome) (any_ended past) un in
      let f = client_frame_at e past t in
      let nego = went_nego f t t.outcome each.0.shown.reply went.0 s.0 in
      (unchecked f t each.0.shown.acts nego, each.0.shown.acts.opened, nothing_opened past each.1 went.1 s.1)

  -- before it has proved, it has sealed nothing
  nothing_sealed : (past : List Turn) → EachClientTurn c e past → AllGoOn past → any_ended past ≡ false → any_proved past ≡ false →
      client_sealed e past ≡ []
  nothing_sealed [] each went un unproved = refl
  nothing_sealed (t ∷ past) each went un unproved =
      let s = or_false (is_ended t.outcome) (any_ended past) un in
      let p = or_false (is_replied t.outcome && t.acts.proved) (any_proved past) unproved in
      let f = client_frame_at e past t in
      let nego = went_nego f t t.outcome each.0.shown.reply went.0 s.0 in
      rw (
        unsealed f t each.0.shown.acts nego,
        went_proved t.outcome t.acts.proved went.0 s.0 p.0,
        nothing_sealed past each.1 went.1 s.1 p.1,
      ) refl

  pub proof_first : (past : List Turn) (t : Turn) → EachClientTurn c e (t ∷ past) → AllGoOn past → t.acts.proved ≡ true →
      client_sealed e past ≡ []
  proof_first past t each went was =
      let s = state_nego (any_ended past) (any_proved past) (proved_nego (client_frame_at e past t) t each.0.shown.acts was) in
      nothing_sealed past each.1 went s.0 s.1

  -- so the context has made no message
  nothing_made : (past : List Turn) → EachClientTurn c e past → AllGoOn past → any_ended past ≡ false → any_proved past ≡ false →
      made_in past ≡ 0
  nothing_made [] each went un unproved = refl
  nothing_made (t ∷ past) each went un unproved =
      let s = or_false (is_ended t.outcome) (any_ended past) un in
      let p = or_false (is_replied t.outcome && t.acts.proved) (any_proved past) unproved in
      let f = client_frame_at e past t in
      let nego = went_nego f t t.outcome each.0.shown.reply went.0 s.0 in
      rw (
        unsealed f t each.0.shown.acts nego,
        went_proved t.outcome t.acts.proved went.0 s.0 p.0,
        nothing_made past each.1 went.1 s.1 p.1,
      ) refl

  pub made_first : (past : List Turn) (t : Turn) → EachClientTurn c e (t ∷ past) → AllGoOn past → t.acts.proved ≡ true →
      made_in past ≡ 0
  made_first past t each went was =
      let s = state_nego (any_ended past) (any_proved past) (proved_nego (client_frame_at e past t) t each.0.shown.acts was) in
      nothing_made past each.1 went s.0 s.1

  -- before it has ended, it has sealed at most its proof
  one_more : (t : Turn) (past : List Turn) (proved : Bool) → (proved ≡ true → client_sealed e past ≡ []) →
      length (client_sealed e past) ≤ 1 →
      length (where_done proved
      (proof_text whose.Client (client_noted e.settings.least (t ∷ past)) e.settings.nonce e.settings.public_key) ++ client_sealed e past)
      ≤ 1
  one_more t past true none few =
      rw (
        none refl,
        length-append
            (proof_text whose.Client (client_noted e.settings.least (t ∷ past)) e.settings.nonce e.settings.public_key) [],
      )
      (omega (arith, proof_few whose.Client (client_noted e.settings.least (t ∷ past)) e.settings.nonce e.settings.public_key))
  one_more t past false none few = few

  one_at_most : (past : List Turn) → EachClientTurn c e past → AllGoOn past → any_ended past ≡ false → length (client_sealed e past) ≤ 1
  one_at_most [] each went un = omega arith
  one_at_most (t ∷ past) each went un =
      let s = or_false (is_ended t.outcome) (any_ended past) un in
      let f = client_frame_at e past t in
      let nego = went_nego f t t.outcome each.0.shown.reply went.0 s.0 in
      rw (unsealed f t each.0.shown.acts nego)
      (one_more t past t.acts.proved (proof_first past t each went.1) (one_at_most past each.1 went.1 s.1))

  -- ---- the first text that a client sealed is its proof

  abbrev NoneProved : List Turn → Type 0
  NoneProved [] = Unit {0}
  NoneProved (t ∷ past) = (t.acts.proved ≡ false) × NoneProved past

  any_not_proved : (past : List Turn) → NoneProved past → any_proved past ≡ false
  any_not_proved [] none = refl
  any_not_proved (t ∷ past) none = rw (none.0, any_not_proved past none.1) (and_not (is_replied t.outcome))

  pub record ClientProof (turns : List Turn) : Type 0 where
    pub at : TurnOf turns
    pub end : at.turn.end ≡ Client
    pub proved : at.turn.acts.proved ≡ true
    pub version : ℕ
    pub noted : client_noted e.settings.least (client_turns turns) ≡ Some version
    pub more : List (List ℕ)
    pub first : client_sealed e (client_turns turns) ≡ more ++ (prescribed whose.Client version e.settings.nonce e.settings.public_key ∷ [])

  abbrev pub ClientProofIn : List Turn → Type 0
  ClientProofIn turns = (NoneProved (client_turns turns) × (client_sealed e (client_turns turns) ≡ [])) ⊎ ClientProof turns

  noted_on : (least : ℕ) (x : Turn) (turns : List Turn) (version : ℕ) → client_noted least turns ≡ Some version →
      client_noted least (x ∷ turns) ≡ Some version
  noted_on least x [] version is = absurd (cc (is))
  noted_on least x (t ∷ []) version is = absurd (cc (is))
  noted_on least x (t ∷ u ∷ past) version is = is

  abbrev turn_on : (t : Turn) (past : List Turn) → TurnOf past → TurnOf (t ∷ past)
  turn_on t past at = record { later = t ∷ at.later; turn = at.turn; before = at.before; parts = ap (λ (l : List Turn). t ∷ l) at.parts }

  -- one more turn, of the client or of the server
  proof_on : (t : Turn) (past : List Turn) → t.end ≡ Client → ClientProof past → ClientProof (t ∷ past)
  proof_on t past is p = record {
    at = turn_on t past p.at;
    end = p.end;
    proved = p.proved;
    version = p.version;
    noted = rw (client_more t past is) (noted_on e.settings.least t (client_turns past) p.version p.noted);
    more = client_texts e (client_turns past) t ++ p.more;
    first = rw (client_more t past is) (ap (λ (l : List (List ℕ)). client_texts e (client_turns past) t ++ l) p.first
        ∙ sym (append_assoc (client_texts e (client_turns past) t) p.more
        (prescribed whose.Client p.version e.settings.nonce e.settings.public_key ∷ [])));
  }

  proof_over : (t : Turn) (past : List Turn) → t.end ≡ Server → ClientProof past → ClientProof (t ∷ past)
  proof_over t past is p = record {
    at = turn_on t past p.at;
    end = p.end;
    proved = p.proved;
    version = p.version;
    noted = rw (client_skip t past is) p.noted;
    more = p.more;
    first = rw (client_skip t past is) p.first;
  }

  pub proof_alone : (t : Turn) (past : List Turn) (version : ℕ) → t.acts.sealed ≡ false → t.acts.proved ≡ true →
      client_noted e.settings.least (t ∷ past) ≡ Some version → client_sealed e past ≡ [] →
      client_sealed e (t ∷ past) ≡ prescribed whose.Client version e.settings.nonce e.settings.public_key ∷ []
  proof_alone t past version un was noted nothing = rw (un, was, noted, nothing) refl

  proof_of : (t : Turn) (past : List Turn) → t.end ≡ Client → EachClientTurn c e (t ∷ client_turns past) → NoneProved (client_turns past) →
      client_sealed e (client_turns past) ≡ [] → (proved : Bool) → t.acts.proved ≡ proved → ClientProofIn (t ∷ past)
  proof_of t past is each none nothing proved was = proof_by proved was
    where
      unsealed_yet : t.acts.sealed ≡ false
      unsealed_yet = is_false t.acts.sealed (λ sealed.
          let s = state_auth (any_ended (client_turns past)) (any_proved (client_turns past))
          (checked_auth (client_frame_at e (client_turns past) t) t each.0.shown.acts sealed) in
          let n = any_not_proved (client_turns past) none in
          let p = s.1 in absurd (cc (n, p)))

      proof_by : (proved : Bool) → t.acts.proved ≡ proved → ClientProofIn (t ∷ past)
      proof_by true was =
          let v = some_there (client_noted e.settings.least (t ∷ client_turns past)) (each.0.shown.acts.proved was).1 in
          inr (record {
            at = record { later = []; turn = t; before = past; parts = refl };
            end = is;
            proved = was;
            version = v.0;
            noted = ap (λ (l : List Turn). client_noted e.settings.least l) (client_more t past is) ∙ v.1;
            more = [];
            first = ap (λ (l : List Turn). client_sealed e l) (client_more t past is)
                ∙ proof_alone t (client_turns past) v.0 unsealed_yet was v.1 nothing;
          })
      proof_by false was = inl (rw (client_more t past is) (was, none), rw (client_more t past is) (rw (unsealed_yet, was) nothing))

  client_proof_by : (t : Turn) (past : List Turn) (end : End) → t.end ≡ end → EachClientTurn c e (onto_client end t (client_turns past)) →
      ClientProofIn past → ClientProofIn (t ∷ past)
  client_proof_by t past Client is each (inl none) = proof_of t past is each none.0 none.1 t.acts.proved refl
  client_proof_by t past Client is each (inr p) = inr (proof_on t past is p)
  client_proof_by t past Server is each (inl none) = inl (rw (client_skip t past is) none.0, rw (client_skip t past is) none.1)
  client_proof_by t past Server is each (inr p) = inr (proof_over t past is p)

  each_before : (end : End) (t : Turn) (past : List Turn) → EachClientTurn c e (onto_client end t past) → EachClientTurn c e past
  each_before Client t past each = each.1
  each_before Server t past each = each

  pub client_proof : (turns : List Turn) → EachClientTurn c e (client_turns turns) → ClientProofIn turns
  client_proof [] each = inl (tt, refl)
  client_proof (t ∷ past) each = client_proof_by t past t.end refl each (client_proof past (each_before t.end t (client_turns past) each))

  -- ---- the second text that a client sealed is that of its credentials

  pub record SealedText (turns : List Turn) : Type 0 where
    pub sealed : HasSealed turns
    pub text : List ℕ
    pub delegated : delegated_text e.settings.credentials e.settings.delegation ≡ Ok text
    pub rest : List (List ℕ)
    pub few : length rest ≤ 1
    pub all : client_sealed e (client_turns turns) ≡ text ∷ rest

  abbrev pub SealedIn : List Turn → Type 0
  SealedIn turns = (length (client_sealed e (client_turns turns)) ≤ 1) ⊎ SealedText turns

  sealed_on : (t : Turn) (past : List Turn) → HasSealed past → HasSealed (t ∷ past)
  sealed_on t past h = record { at = turn_on t past h.at; end = h.end; checked = h.checked; sealed = h.sealed }

  -- one more turn in which the client sealed nothing
  silent_on : (t : Turn) (past : List Turn) → client_sealed e (client_turns (t ∷ past)) ≡ client_sealed e (client_turns past) →
      SealedIn past → SealedIn (t ∷ past)
  silent_on t past same (inl few) = inl (rw same few)
  silent_on t past same (inr s) = inr (record {
    sealed = sealed_on t past s.sealed;
    text = s.text;
    delegated = s.delegated;
    rest = s.rest;
    few = s.few;
    all = same ∙ s.all;
  })

  sealed_of : (t : Turn) (past : List Turn) → t.end ≡ Client → EachClientTurn c e (t ∷ client_turns past) → AllGoOn (client_turns past) →
      t.acts.sealed ≡ true → (text : Result (List ℕ) Error) → delegated_text e.settings.credentials e.settings.delegation ≡ text →
      SealedIn (t ∷ past)
  sealed_of t past is each went was text delegated = by text delegated
    where
      frame : ClientFrame C
      frame = client_frame_at e (client_turns past) t

      auth : frame.state ≡ AuthInfo
      auth = checked_auth frame t each.0.shown.acts was

      unproved : t.acts.proved ≡ false
      unproved = is_false t.acts.proved (λ proved. let n = proved_nego frame t each.0.shown.acts proved in absurd (cc (auth, n)))

      few : length (client_sealed e (client_turns past)) ≤ 1
      few = one_at_most (client_turns past) each.1 went (state_auth (any_ended (client_turns past)) (any_proved (client_turns past)) auth).0

      by : (text : Result (List ℕ) Error) → delegated_text e.settings.credentials e.settings.delegation ≡ text → SealedIn (t ∷ past)
      by (Ok text) delegated = inr (record {
        sealed = record {
          at = record { later = []; turn = t; before = past; parts = refl };
          end = is;
          checked = each.0.shown.acts.sealed was;
          sealed = was;
        };
        text = text;
        delegated = delegated;
        rest = client_sealed e (client_turns past);
        few = few;
        all = rw (client_more t past is) (rw (was, unproved, delegated) refl);
      })
      by (Err error) delegated = inl (rw (client_more t past is) (rw (was, unproved, delegated) few))

  unsealed_of : (t : Turn) (past : List Turn) → t.end ≡ Client → EachClientTurn c e (t ∷ client_turns past) → AllGoOn (client_turns past) →
      t.acts.sealed ≡ false → (proved : Bool) → t.acts.proved ≡ proved → SealedIn past → SealedIn (t ∷ past)
  unsealed_of t past is each went un true was found =
      inl (rw (client_more t past is) (rw (un, was)
      (one_more t (client_turns past) true (λ yes. proof_first (client_turns past) t each went was)
      (rw (proof_first (client_turns past) t each went was) (omega arith)))))
  unsealed_of t past is each went un false was found = silent_on t past (rw (client_more t past is) (rw (un, was) refl)) found

  sealed_by : (t : Turn) (past : List Turn) (end : End) (sealed : Bool) → t.end ≡ end → t.acts.sealed ≡ sealed →
      EachClientTurn c e (onto_client end t (client_turns past)) → OthersGoOn (onto_client end t (client_turns past)) → SealedIn past →
      SealedIn (t ∷ past)
  sealed_by t past Server sealed is was each others found = silent_on t past
      (ap (λ (l : List Turn). client_sealed e l) (client_skip t past is)) found
  sealed_by t past Client true is was each others found = sealed_of t past is each others was
      (delegated_text e.settings.credentials e.settings.delegation) refl
  sealed_by t past Client false is was each others found = unsealed_of t past is each others was t.acts.proved refl found

  others_before : (end : End) (t : Turn) (past : List Turn) → OthersGoOn (onto_client end t past) → OthersGoOn past
  others_before Client t [] others = tt
  others_before Client t (u ∷ past) others = others.1
  others_before Server t past others = others

  pub sealings_in : (turns : List Turn) → EachClientTurn c e (client_turns turns) → OthersGoOn (client_turns turns) → SealedIn turns
  sealings_in [] each others = inl (omega arith)
  sealings_in (t ∷ past) each others =
      sealed_by t past t.end t.acts.sealed refl refl each others
      (sealings_in past (each_before t.end t (client_turns past) each) (others_before t.end t (client_turns past) others))

  pub second_seal : (turns : List Turn) (z y : List ℕ) (later : List (List ℕ)) → SealedIn turns →
      client_sealed e (client_turns turns) ≡ later ++ (z ∷ (y ∷ [])) →
      HasSealed turns × (delegated_text e.settings.credentials e.settings.delegation ≡ Ok z)
  second_seal turns z y later (inl few) is = two_are_more z y (client_sealed e (client_turns turns)) later few is
  second_seal turns z y later (inr s) is =
      (s.sealed, s.delegated ∙ ap Ok (head_of_two s.text z y s.rest later s.few (sym s.all ∙ is)))

  -- ---- a client that seals

  pub seals_once_opened : (past : List Turn) (t : Turn) (text : List ℕ) → EachClientTurn c e (t ∷ past) → AllGoOn past →
      t.acts.sealed ≡ true → OpensIn c e.context (opened_in past) t.delivered.pub_key_auth text →
      HaveOpened c e.context (t ∷ past) (text ∷ [])
  seals_once_opened past t text each went was opens =
      let checked = each.0.shown.acts.sealed was in
      let s = state_auth (any_ended past) (any_proved past) (checked_auth (client_frame_at e past t) t each.0.shown.acts was) in (
        [],
        opened_nothing c e.context past (nothing_opened past each.1 went s.0),
        opens_proof c e.context t (opened_in past) [] text checked each.0.shown.acts.opened opens,
      )
