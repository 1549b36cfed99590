-- The turns of a server in an undisturbed exchange that end its authentication, and that answer the client's proof, in one
-- turn or in two.
use Rattle.std.proofs.Common.{◌≡◌, ◌≢◌, ℕ, ◌-◌, ◌<◌, ◌^◌, List, [], Bool, true, false, Option, None, Some, IsSome, refl, ap, sym, ◌∙◌}
use Rattle.std.proofs.Common.{subst, arith, nat_lt}
use Rattle.sspi_types.specs.declared.error_kind.ErrorKind.{ErrorKind}
use Rattle.sspi_types.specs.declared.error_kind.ErrorKind.TheVariants.{InvalidToken, InsufficientMemory}
use Rattle.sspi_types.specs.declared.security_status.SecurityStatus.{SecurityStatus}
use Rattle.sspi_types.specs.declared.security_status.SecurityStatus.TheVariants as statuses
use Rattle.sspi_names.specs.declared.credentials.CredentialsBuffers.{CredentialsBuffers}
use Rattle.sspi_tsreq.specs.declared.request.TsRequest.{TsRequest}
use Rattle.sspi_mech.specs.declared.step.Step.{Step}
use Rattle.sspi_mech.specs.Context.{IsContext}
use Rattle.sspi_mech.specs.Meaning.{Meaning}
use Rattle.sspi_credssp.specs.declared.public_key.EndpointType.TheVariants.{Client, Server}
use Rattle.sspi_credssp.specs.declared.state.CredSspState.{CredSspState}
use Rattle.sspi_credssp.specs.declared.state.CredSspState.TheVariants.{PubKeyInfo, AuthInfo}
use Rattle.sspi_credssp.specs.Acts.{sealings_by, unsealings_by, sealings_in, unsealings_in, AddsActs, CountsEachAct}
use Rattle.sspi_credssp.specs.Acts.{SealsIn, SameBut, cleared}
use Rattle.sspi_credssp.specs.Context.{IfContext, ContextSetting}
use Rattle.sspi_credssp.specs.Exchange.{CheckedCause, ProofCause, opens_other, altered, unsealed, prescribed}
use Rattle.sspi_credssp.specs.Requests.{nonce_of, IsLong}
use Rattle.sspi_credssp.specs.Proxy.{ProxyMeaning}
use Rattle.sspi_credssp.specs.Ends.{ServerSettings, ServerView}
use Rattle.sspi_credssp.specs.ServerCause.{IdentifyCause, OverCause, unknown, incomplete, known, AfterCause, ExchangeCause}
use Rattle.sspi_credssp.specs.ServerCause.{BlobCause, lacks_nonce}
use Rattle.sspi_credssp.specs.ServerTurn.{Unknown, Identified, Completed, ServerTurn, after_status, server_frame, server_turn}
use Rattle.sspi_credssp.specs.Noted.{noted_with}
use Rattle.sspi_credssp.specs.Turn.{IsOver, ShowsOver, ShowsProofBack, ShowsStateBack, server_shown, AtNoted, OnceNegotiated}
use Rattle.sspi_credssp.specs.Turn.{HoldsProofBack}
use Rattle.sspi_mech.specs.Calls.{ToComplete, ToSeal}
use Rattle.sspi_credssp.specs.declared.turn.Outcome.{Outcome}
use Rattle.sspi_credssp.specs.declared.turn.Outcome.TheVariants as outcome
use Rattle.sspi_delegate.specs.History.{ServerMakes}
use Rattle.sspi_credssp.proofs.Counting.{counted_by}
use Rattle.sspi_completeness.proofs.Accepting.{IsPeer, named_is, come_at}
use Rattle.sspi_completeness.proofs.Ends.{Comes, is_false, stops_later, sealed_few, Holds, IsMaker, IsTaker, holds_still, sealed_field}
use Rattle.sspi_completeness.proofs.Ends.{ServerIs}
use Rattle.sspi_completeness.proofs.ServerTurns.{NegoGiven, nego_acts, server_now, cause_past, over_answer, over_cause}
use Rattle.sspi_completeness.proofs.ServerTurns.{counts_on, noted_now, replies, over_left, never_finishes, refusal}
use Rattle.sspi_completeness.proofs.Replies.{proof_back_is, token_back_is}

asks_proof : (st : SecurityStatus) → IsOver (Some st) → after_status (Some st) ≡ PubKeyInfo
asks_proof statuses.Ok over = refl
asks_proof statuses.ContinueNeeded over = absurd over
asks_proof statuses.CompleteNeeded over = refl
asks_proof statuses.CompleteAndContinue over = absurd over
asks_proof statuses.LocalLogon over = absurd over
asks_proof statuses.ContextExpired over = absurd over
asks_proof statuses.IncompleteCredentials over = absurd over
asks_proof statuses.Renegotiate over = absurd over
asks_proof statuses.NoLsaContext over = absurd over

module _ {C P : Type 0} (c : Meaning ContextSetting C) (laws : IsContext c) (p : ProxyMeaning P) where
  abbrev View : Type 0
  View = ServerView C P

  -- input of a turn that answers the client's proof: that proof, its peer's first sealed message
  pub record ProofGiven (b : View) (w : ℕ) (d : TsRequest) (z : C) (own peers : ℕ → List ℕ → List ℕ) : Type 0 where
    pub maker : IsMaker c z own
    pub taker : IsTaker c z peers
    pub proof : d.pub_key_auth ≡ Some (peers 0 (prescribed Client w (nonce_of d.client_nonce) b.settings.public_key))
    pub nonce : lacks_nonce (nat_lt w 5) d.client_nonce ≡ false

  module _ (b old : View) (w : ℕ) (d : TsRequest) (z : C) (own peers : ℕ → List ℕ → List ℕ)
      (proof_given : ProofGiven b w d z own peers) where
    abbrev client_text : List ℕ
    client_text = prescribed Client w (nonce_of d.client_nonce) b.settings.public_key

    abbrev pub answer : TsRequest
    answer = record d {
      version = b.settings.version;
      nego_tokens = None;
      pub_key_auth = Some (own 0 (prescribed Server w (nonce_of d.client_nonce) b.settings.public_key));
    }

    answered : (mid : View) (r : TsRequest) → ShowsProofBack (server_shown (server_frame c old mid))
        (server_turn c d (outcome.Reply r) mid) r → HoldsProofBack c (server_frame c old mid) d r → Holds c mid.context z →
        mid.noted ≡ Some w →
        mid.settings ≡ b.settings → sealings_in c mid.context ≡ 1 → r ≡ answer
    answered mid r proof held holds noted same one =
        let seals = subst (λ (x : Option ℕ). AtNoted x (λ n. SealsIn c mid.context (sealings_in c mid.context - 1)
        (prescribed Server n (nonce_of d.client_nonce) mid.settings.public_key) r.pub_key_auth)) noted held in
        let field = sealed_field c mid.context z own _ _ r.pub_key_auth holds proof_given.maker seals in
        let field_is : r.pub_key_auth ≡ Some (own 0 (prescribed Server w (nonce_of d.client_nonce) b.settings.public_key)) =
        field ∙ (rw (one, same) refl) in
        proof_back_is (server_frame c old mid) (server_turn c d (outcome.Reply r) mid) r proof ∙ (rw (same, field_is) refl)

    answer_never : (m : C) (text : List ℕ) (kind : ErrorKind) → cleared c m ≡ z → (c.counts m).sealings < 2 ^ 64 - 1 →
        CheckedCause c m (peers 0 client_text) client_text (c.refuses m (ToSeal text) kind) kind → ⊥
    answer_never m text kind same few (altered (opens_other text2 opens differs) is) =
        differs (proof_given.taker.opened m 0 _ client_text text2 same opens)
    answer_never m text kind same few (unsealed opens refuses) = proof_given.maker.never m text kind same few refuses

    proof_never : (checked : Bool) (m : C) (text : List ℕ) (kind : ErrorKind) → cleared c m ≡ z → (c.counts m).sealings < 2 ^ 64 - 1 →
        (checked ≡ false → (c.counts m).unsealings ≡ 0) → ProofCause c checked m (peers 0 client_text) client_text
        (c.refuses m (ToSeal text) kind) kind → ⊥
    proof_never false m text kind same few next h = proof_given.taker.never m 0 client_text kind same (next refl) (omega arith) h
    proof_never true m text kind same few next h = answer_never m text kind same few h

    exchange_never : (mid : View) (kind : ErrorKind) → Holds c mid.context z → mid.noted ≡ Some w → mid.settings ≡ b.settings →
        sealings_in c mid.context < 2 ^ 64 - 1 →
        (mid.acts.checked ≡ false → unsealings_in c mid.context ≡ 0) → ExchangeCause c d.pub_key_auth mid.noted d.client_nonce mid kind → ⊥
    exchange_never mid kind holds noted same few next cause =
        let blob = peers 0 client_text in
        let at_noted = subst (λ (n : Option ℕ). ExchangeCause c (Some blob) n d.client_nonce mid kind) noted
        (subst (λ (f : Option (List ℕ)). ExchangeCause c f mid.noted d.client_nonce mid kind) proof_given.proof cause) in
        let later = stops_later _ InvalidToken kind _ (proof_given.taker.long 0 client_text)
        (stops_later _ InvalidToken kind _ proof_given.nonce at_noted) in
        let at = subst (λ (x : Option C). BlobCause c w x d.client_nonce blob mid kind) holds.there later in
        let exact = subst (λ (s : ServerSettings). ProofCause c mid.acts.checked holds.held blob
        (prescribed Client w (nonce_of d.client_nonce) s.public_key)
        (c.refuses holds.held (ToSeal (prescribed Server w (nonce_of d.client_nonce) s.public_key)) kind) kind) same at in
        let sealed_here : sealings_in c mid.context ≡ (c.counts holds.held).sealings = ap (sealings_in c) holds.there in
        let opened_here : unsealings_in c mid.context ≡ (c.counts holds.held).unsealings = ap (unsealings_in c) holds.there in
        proof_never mid.acts.checked holds.held _ kind holds.same (omega (arith, few, sealed_here))
        (λ unchecked. sym opened_here ∙ next unchecked) exact

    -- ---- the proof alone

    module _ (is : ServerIs c b old w PubKeyInfo 0 0) (holds : Holds c old.context z) (version : d.version ≡ w) where
      counts_alone : (mid : View) → CountsEachAct c old.state old.context mid.acts mid.context → AddsActs c old.context mid.acts mid.context
      counts_alone mid = counted_by c old.state old.context mid.acts mid.context (λ nego. let at = is.state_is in absurd cc)

      bare_at : (state : CredSspState) (Q : Type 0) → state ≡ PubKeyInfo → OnceNegotiated state Q → Q
      bare_at state Q at h = subst (λ (s : CredSspState). OnceNegotiated s Q) at h

      held_now : (mid : View) → OnceNegotiated old.state (SameBut c old.context mid.context) → Holds c mid.context z
      held_now mid bare = holds_still c old.context mid.context z (bare_at old.state _ is.state_is bare) holds

      noted_at : (mid : View) (m : C) → mid.context ≡ Some m →
          (IsSome mid.context → mid.noted ≡ noted_with old.settings.least old.noted d.version) → mid.noted ≡ Some w
      noted_at mid m there noted = noted (rw there refl) ∙ ap (noted_with old.settings.least old.noted) version ∙ is.notes

      unopened : (mid : View) (out : Outcome) → ServerTurn c old d out mid → mid.acts.opened ≡ false
      unopened mid out turn = is_false mid.acts.opened (λ was. let auth = (turn.turn.shown.acts.opened was).0 in let at = is.state_is in cc)

      proof_replied : (mid : View) (r : TsRequest) → ServerMakes c p old d (outcome.Reply r) mid →
          (r ≡ answer) × ServerIs c b mid w AuthInfo 1 1 × Holds c mid.context z
      proof_replied mid r makes =
          let turn = makes.turn in
          let proof : ShowsProofBack (server_shown (server_frame c old mid)) (server_turn c d (outcome.Reply r) mid) r =
          subst (λ (s : CredSspState). ShowsStateBack (server_shown (server_frame c old mid)) (server_turn c d (outcome.Reply r) mid) s r)
          is.state_is turn.turn.shown.reply in
          let h = held_now mid turn.moves.bare in
          let one : sealings_by mid.acts ≡ 1 = rw (proof.proved, turn.turn.shown.acts.sealed) refl in
          let opened_one : unsealings_by mid.acts ≡ 1 = rw (proof.checked, unopened mid _ turn) refl in
          let sealed_now : sealings_in c mid.context ≡ 1 = (counts_alone mid turn.moves.counts).0 ∙ (rw (is.sealed_is, one) refl) in
          let noted = noted_at mid h.held h.there turn.moves.noted in
          let same = turn.moves.same ∙ is.same in (
            answered mid r proof (turn.turn.held.reply proof.proved) h noted same sealed_now,
            server_now c laws p b mid w AuthInfo 1 1 same (turn.moves.state ∙ (rw proof.proved refl)) noted sealed_now
                ((counts_alone mid turn.moves.counts).1 ∙ (rw (is.unsealed_is, opened_one) refl)),
            h,
          )

      proof_refused : (mid : View) (kind : ErrorKind) (reply : Option TsRequest) →
          ServerMakes c p old d (outcome.Refused kind reply) mid → kind ≢ InsufficientMemory → ⊥
      proof_refused mid kind reply makes others =
          let turn = makes.2.turn in
          let others2 : makes.0.error_type ≢ InsufficientMemory = λ memory. others (sym makes.1 ∙ memory) in
          let cause = cause_past c laws p b old mid w d PubKeyInfo 0 0 makes.0.error_type is version
          (λ none. absurd (cc (none, holds.there))) makes.2.cause.kind others2 in
          let h = held_now mid turn.moves.bare in
          let sealed = (counts_alone mid turn.moves.counts).0 in
          let opened = (counts_alone mid turn.moves.counts).1 in
          let sealed_before = is.sealed_is in
          let opened_before = is.unsealed_is in
          let two = sealed_few mid.acts in
          exchange_never mid makes.0.error_type h (noted_at mid h.held h.there turn.moves.noted)
          (turn.moves.same ∙ is.same)
          (omega (arith, sealed, sealed_before, two))
          (λ unchecked. let none : unsealings_by mid.acts ≡ 0 =
          rw (unchecked, unopened mid _ turn) refl in omega (arith, opened, opened_before, none)) cause

      proof_ends : (mid : View) → ServerMakes c p old d outcome.Finished mid → ⊥
      proof_ends mid makes = let auth = makes.1.turn.0.turn.shown.reply.0 in let at = is.state_is in cc

      pub proof_turn : (out : Outcome) (mid : View) → ServerMakes c p old d out mid →
          Comes out (λ r. (r ≡ answer) × ServerIs c b mid w AuthInfo 1 1 × Holds c mid.context z)
      proof_turn (outcome.Reply r) mid makes = proof_replied mid r makes
      proof_turn (outcome.Final r) mid makes = absurd makes
      proof_turn outcome.Finished mid makes = proof_ends mid makes
      proof_turn (outcome.Refused kind reply) mid makes = λ others. proof_refused mid kind reply makes others

  -- ---- the end of the authentication

  module _ (b old : View) (w : ℕ) (d : TsRequest) (step : Step) (y z : C) (handle : Option CredentialsBuffers)
      (given : NegoGiven c laws p b old w d step y handle)
      (peer : IsPeer c laws (p.told old.proxy) y z) (over : IsOver (Some step.status)) where
    -- a refusal comes after the peer's name and the context's end
    over_after : (mid : View) (kind : ErrorKind) → p.faults mid.proxy ≡ p.faults old.proxy → p.faults old.proxy < 2 ^ 64 - 1 →
        OverCause c p step.status old d mid kind →
        Holds c mid.context z × (mid.output ≡ step.output) × AfterCause c d.pub_key_auth d.client_nonce mid kind
    over_after mid kind still calm (unknown unchecked come h) =
        let left = (come_at c laws p old d.nego_tokens step y handle given.takes mid Unknown step.status come).1 in
        absurd (peer.never left.held (p.faults old.proxy) (p.faults mid.proxy) kind left.comes still calm
        (subst (λ (o : Option C). IfContext o (λ m. IdentifyCause c m (p.told old.proxy) (p.faults old.proxy) (p.faults mid.proxy) kind))
        left.there h))
    over_after mid kind still calm (incomplete unchecked come h) =
        let left = (come_at c laws p old d.nego_tokens step y handle given.takes mid Identified step.status come).1 in
        absurd (peer.completes left.held kind (named_is c laws (p.told old.proxy) y z left.held peer left.comes)
        (subst (λ (o : Option C). IfContext o (λ m. c.refuses m ToComplete kind)) left.there h))
    over_after mid kind still calm (known come after) =
        let left = (come_at c laws p old d.nego_tokens step y handle given.takes mid Completed step.status come).1 in (
          record { held = left.held; there = left.there; same = named_is c laws (p.told old.proxy) y z left.held peer left.comes },
          left.output_is,
          after,
        )

    -- after a reply its context is left so, and the version stays pinned
    replied : (mid : View) (r : TsRequest) → ServerMakes c p old d (outcome.Reply r) mid →
        Holds c mid.context z × (mid.output ≡ step.output) × (mid.noted ≡ Some w)
    replied mid r makes =
        let done = (replies c laws p b old w d step y handle given mid r makes).done in
        let left = over_left c laws p b old w d step y handle given mid over done in (
          record { held = left.held; there = left.there; same = named_is c laws (p.told old.proxy) y z left.held peer left.comes },
          left.output_is,
          noted_now c laws p b old w d step y handle given mid left.held left.there makes.turn.moves.noted,
        )

    -- and it answers the client's proof so
    over_shows : (mid : View) (r : TsRequest) → ServerMakes c p old d (outcome.Reply r) mid → (proof : Option (List ℕ)) →
        d.pub_key_auth ≡ proof → ShowsOver (server_shown (server_frame c old mid)) (server_turn c d (outcome.Reply r) mid) proof r
    over_shows mid r makes proof is =
        let frame = server_frame c old mid in
        let t = server_turn c d (outcome.Reply r) mid in
        let s = replies c laws p b old w d step y handle given mid r makes in
        subst (λ (x : Option (List ℕ)). ShowsOver (server_shown frame) t x r) is (over_answer c laws p step.status frame t r over s.answer)

    -- ---- with the client's proof

    module _ (own peers : ℕ → List ℕ → List ℕ) (proof_given : ProofGiven b w d z own peers) where
      exchange_replied : (mid : View) (r : TsRequest) → ServerMakes c p old d (outcome.Reply r) mid →
          (r ≡ answer b old w d z own peers proof_given) × ServerIs c b mid w AuthInfo 1 1 × Holds c mid.context z
      exchange_replied mid r makes =
          let turn = makes.turn in
          let frame = server_frame c old mid in
          let t = server_turn c d (outcome.Reply r) mid in
          let proof : ShowsProofBack (server_shown frame) t r = over_shows mid r makes _ proof_given.proof in
          let left = replied mid r makes in
          let quiet = nego_acts c laws p frame t turn.turn.shown.acts given.is.state_is in
          let counted = counts_on c laws p b old w d step y handle given mid turn.moves.counts in
          let one : sealings_by mid.acts ≡ 1 = rw (proof.proved, quiet.0) refl in
          let opened_one : unsealings_by mid.acts ≡ 1 = rw (proof.checked, quiet.1) refl in
          let sealed_now : sealings_in c mid.context ≡ 1 = counted.0 ∙ (rw (given.is.sealed_is, one) refl) in
          let same = turn.moves.same ∙ given.is.same in (
            answered b old w d z own peers proof_given mid r proof
                (turn.turn.held.reply proof.proved) left.0 left.2 same sealed_now,
            server_now c laws p b mid w AuthInfo 1 1 same (turn.moves.state ∙ (rw proof.proved refl)) left.2 sealed_now
                (counted.1 ∙ (rw (given.is.unsealed_is, opened_one) refl)),
            left.0,
          )

      exchange_at : (field : Option (List ℕ)) (blob : List ℕ) (mid : View) (kind : ErrorKind) → field ≡ Some blob →
          AfterCause c field d.client_nonce mid kind →
          ExchangeCause c field mid.noted d.client_nonce mid kind
      exchange_at None blob mid kind is h = absurd (cc (is))
      exchange_at (Some x) blob mid kind is h = h

      exchange_refused : (mid : View) (kind : ErrorKind) (reply : Option TsRequest) → p.faults mid.proxy ≡ p.faults old.proxy →
          p.faults old.proxy < 2 ^ 64 - 1 →
          ServerMakes c p old d (outcome.Refused kind reply) mid → kind ≢ InsufficientMemory → ⊥
      exchange_refused mid kind reply still calm makes others =
          let x = refusal c laws p b old w d step y handle given mid kind reply still calm makes others in
          let after = over_after mid kind still calm (over_cause c laws p step.status old d mid kind over x.cause) in
          let counted = counts_on c laws p b old w d step y handle given mid x.turn.moves.counts in
          let quiet = nego_acts c laws p (server_frame c old mid)
          (server_turn c d (outcome.Refused kind reply) mid) x.turn.turn.shown.acts given.is.state_is in
          let sealed = counted.0 in
          let opened = counted.1 in
          let sealed_before = given.is.sealed_is in
          let opened_before = given.is.unsealed_is in
          let two = sealed_few mid.acts in
          exchange_never b old w d z own peers proof_given mid kind after.0
          (noted_now c laws p b old w d step y handle given mid after.0.held after.0.there x.turn.moves.noted)
          (x.turn.moves.same ∙ given.is.same) (omega (arith, sealed, sealed_before, two))
          (λ unchecked. let none : unsealings_by mid.acts ≡ 0 = rw (unchecked, quiet.1) refl in omega (arith, opened, opened_before, none))
          (exchange_at d.pub_key_auth _ mid kind proof_given.proof after.2)

      pub exchange_turn : (out : Outcome) (mid : View) → p.faults mid.proxy ≡ p.faults old.proxy → p.faults old.proxy < 2 ^ 64 - 1 →
          ServerMakes c p old d out mid →
          Comes out (λ r. (r ≡ answer b old w d z own peers proof_given) × ServerIs c b mid w AuthInfo 1 1 × Holds c mid.context z)
      exchange_turn (outcome.Reply r) mid still calm makes = exchange_replied mid r makes
      exchange_turn (outcome.Final r) mid still calm makes = absurd makes
      exchange_turn outcome.Finished mid still calm makes = never_finishes c laws p b old w d step y handle given mid makes
      exchange_turn (outcome.Refused kind reply) mid still calm makes = λ others. exchange_refused mid kind reply still calm makes others

    -- ---- before the client's proof came

    module _ (absent : d.pub_key_auth ≡ None) (speaks : step.output ≢ []) where
      over_replied : (mid : View) (r : TsRequest) → ServerMakes c p old d (outcome.Reply r) mid →
          (r ≡ record d { version = b.settings.version; nego_tokens = Some step.output }) × ServerIs c b mid w PubKeyInfo 0 0 ×
          Holds c mid.context z
      over_replied mid r makes =
          let turn = makes.turn in
          let frame = server_frame c old mid in
          let t = server_turn c d (outcome.Reply r) mid in
          let s = replies c laws p b old w d step y handle given mid r makes in
          let token = over_shows mid r makes None absent in
          let left = replied mid r makes in
          let quiet = nego_acts c laws p frame t turn.turn.shown.acts given.is.state_is in
          let counted = counts_on c laws p b old w d step y handle given mid turn.moves.counts in
          let unchecked : mid.acts.checked ≡ false = is_false mid.acts.checked
          (λ was. subst IsLong absent (turn.turn.shown.acts.checked was).1) in
          let none_sealed : sealings_by mid.acts ≡ 0 = rw (token.0.unproved, quiet.0) refl in
          let none_opened : unsealings_by mid.acts ≡ 0 = rw (unchecked, quiet.1) refl in
          let same = turn.moves.same ∙ given.is.same in (
            token_back_is frame t r token.0 ∙ (rw (same, left.1) refl),
            server_now c laws p b mid w PubKeyInfo 0 0 same
                (turn.moves.state ∙ (rw (given.is.state_is, token.0.unproved, s.status_is) (asks_proof step.status over))) left.2
                (counted.0 ∙ (rw (given.is.sealed_is, none_sealed) refl))
                (counted.1 ∙ (rw (given.is.unsealed_is, none_opened) refl)),
            left.0,
          )

      over_refused : (mid : View) (kind : ErrorKind) (reply : Option TsRequest) → p.faults mid.proxy ≡ p.faults old.proxy →
          p.faults old.proxy < 2 ^ 64 - 1 →
          ServerMakes c p old d (outcome.Refused kind reply) mid → kind ≢ InsufficientMemory → ⊥
      over_refused mid kind reply still calm makes others =
          let x = refusal c laws p b old w d step y handle given mid kind reply still calm makes others in
          let after = over_after mid kind still calm (over_cause c laws p step.status old d mid kind over x.cause) in
          let empty : (mid.output ≡ []) × (kind ≡ InvalidToken) =
          subst (λ (f : Option (List ℕ)). AfterCause c f d.client_nonce mid kind) absent after.2 in
          speaks (sym after.1 ∙ empty.0)

      pub over_turn : (out : Outcome) (mid : View) → p.faults mid.proxy ≡ p.faults old.proxy → p.faults old.proxy < 2 ^ 64 - 1 →
          ServerMakes c p old d out mid →
          Comes out (λ r. (r ≡ record d { version = b.settings.version; nego_tokens = Some step.output }) ×
          ServerIs c b mid w PubKeyInfo 0 0 ×
          Holds c mid.context z)
      over_turn (outcome.Reply r) mid still calm makes = over_replied mid r makes
      over_turn (outcome.Final r) mid still calm makes = absurd makes
      over_turn outcome.Finished mid still calm makes = never_finishes c laws p b old w d step y handle given mid makes
      over_turn (outcome.Refused kind reply) mid still calm makes = λ others. over_refused mid kind reply still calm makes others
