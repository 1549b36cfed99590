-- The turns of a client in an undisturbed exchange: one that sends a token, the one that sends its proof, and its last.
use Rattle.std.proofs.Common.{◌≡◌, ◌≢◌, ℕ, ◌-◌, ◌<◌, ◌^◌, List, Bool, true, false, Option, None, Some, IsSome, refl, ap, sym, ◌∙◌}
use Rattle.std.proofs.Common.{subst, arith, nat_lt}
use Rattle.sspi_types.specs.declared.credential_use.CredentialUse.TheVariants.{Outbound}
use Rattle.sspi_types.specs.declared.error.Error.{Error}
use Rattle.sspi_types.specs.declared.error_kind.ErrorKind.{ErrorKind}
use Rattle.sspi_types.specs.declared.error_kind.ErrorKind.TheVariants.{OutOfSequence, InvalidToken, MessageAltered, DowngradeDetected}
use Rattle.sspi_types.specs.declared.error_kind.ErrorKind.TheVariants.{InsufficientMemory}
use Rattle.sspi_types.specs.declared.security_status.SecurityStatus.{SecurityStatus}
use Rattle.sspi_types.specs.declared.security_status.SecurityStatus.TheVariants as statuses
use Rattle.sspi_names.specs.declared.credentials.CredentialsBuffers.{CredentialsBuffers}
use Rattle.sspi_tsreq.specs.declared.request.TsRequest.{TsRequest}
use Rattle.sspi_mech.specs.declared.step.Answer.{Answer}
use Rattle.sspi_mech.specs.declared.step.Answer.TheVariants.{Done, Refused}
use Rattle.sspi_mech.specs.declared.step.Step.{Step}
use Rattle.sspi_mech.specs.Context.{IsContext}
use Rattle.sspi_mech.specs.Meaning.{Meaning}
use Rattle.sspi_credssp.specs.declared.public_key.EndpointType.TheVariants.{Client}
use Rattle.sspi_credssp.specs.declared.state.CredSspState.{CredSspState}
use Rattle.sspi_credssp.specs.declared.state.CredSspState.TheVariants.{NegoToken, AuthInfo}
use Rattle.sspi_credssp.specs.Acts.{sealings_by, unsealings_by, sealings_in, SealsIn, is_waiting_in, cleared, AddsActs, CountsEachAct}
use Rattle.sspi_credssp.specs.Context.{BeginCause, ContextSetting, ForClient, MadeOr}
use Rattle.sspi_credssp.specs.Ends.{ClientSettings, ClientView}
use Rattle.sspi_credssp.specs.ClientCause.{ClientCause, StateCause, NegoCause, ProveCause}
use Rattle.sspi_credssp.specs.ClientTurn.{Asked, Walked, stepped, resumed, still_asked, recounted, StepsTo, DoneStep, OnStep}
use Rattle.sspi_credssp.specs.ClientTurn.{refused_answer, client_args, ClientTurn, client_frame, client_turn, noted_next}
use Rattle.sspi_credssp.specs.Noted.{noted_in, OrMemory}
use Rattle.sspi_credssp.specs.Exchange.{prescribed}
use Rattle.sspi_credssp.specs.Requests.{is_code, unless_empty}
use Rattle.sspi_credssp.specs.Turn.{ClientFrame, AtNoted, ShowsClientActs, ShowsNego, ShowsProof, ShowsToken, client_shown, HoldsNego}
use Rattle.sspi_credssp.specs.Turn.{HoldsProof}
use Rattle.sspi_credssp.specs.declared.turn.Outcome.{Outcome}
use Rattle.sspi_credssp.specs.declared.turn.Outcome.TheVariants as outcome
use Rattle.sspi_delegate.specs.Chain.{KdcCalls}
use Rattle.sspi_delegate.specs.History.{ClientMakes}
use Rattle.sspi_credssp.proofs.Counting.{counted_by}
use Rattle.sspi_completeness.proofs.Ends.{Comes, in_context, is_false, stops_later, made_past, sealed_few, noted_at, Holds, IsMaker}
use Rattle.sspi_completeness.proofs.Ends.{sealed_field, unused_in, ClientIs, takes_later, takes_noted}
use Rattle.sspi_completeness.proofs.Replies.{proof_is, token_is}
use Rattle.sspi_credssp.specs.declared.turn.Turn.{Turn}

module _ {C : Type 0} (c : Meaning ContextSetting C) (laws : IsContext c) where
  abbrev View : Type 0
  View = ClientView C

  -- a context whose step is done waits for no KDC
  pub done_idle : (start : View) (handle : Option CredentialsBuffers) (token : Option (List ℕ)) (tries : ℕ) (log : List Asked)
      (answer : Answer)
      (step : Step) (m : C) → answer ≡ Done step → Walked c start handle token tries log answer m → c.waits m ≡ false
  done_idle start handle token tries log answer step m is (stepped m0 m1 a begun steps) =
      laws.step_done m0 m (client_args handle start.settings.target token) step
      (subst (λ (x : Answer). c.steps m0 (client_args handle start.settings.target token) x m) is steps)
  done_idle start handle token tries log answer step m is (resumed m1 m2 tried before q reply a walked resumes) =
      laws.resume_done m1 m reply step (subst (λ (x : Answer). c.resumes m1 reply x m) is resumes)
  done_idle start handle token tries log answer step m is (still_asked m1 m2 tried before q reply error walked resumes waits) =
      absurd (cc (is))
  done_idle start handle token tries log answer step m is (recounted m1 m2 n tried before a walked counted quiet) =
      rw counted (laws.waits_counted m1 n ∙ done_idle start handle token tried log answer step m1 is walked)

  -- a turn of the authentication checks nothing, seals no credentials and opens none
  nego_acts : (frame : ClientFrame C) (t : Turn) → ShowsClientActs (client_shown frame) t → frame.state ≡ NegoToken →
      (t.acts.checked ≡ false) × (t.acts.sealed ≡ false) × (t.acts.opened ≡ false)
  nego_acts frame t acts nego =
      let unchecked : t.acts.checked ≡ false = is_false t.acts.checked (λ was. let s = (acts.checked was).0 in cc (s, nego)) in
      let unsealed_so : t.acts.sealed ≡ false = is_false t.acts.sealed (λ was. let s = acts.sealed was in cc (s, unchecked)) in
      (unchecked, unsealed_so, acts.opened)

  module _ {D : Type 0} (k : KdcCalls D) where
    -- all a mode says of a turn's step: the answer, and the context, credentials and KDC after it
    pub record Walks (old : View) (kdc : D) (token : Option (List ℕ)) (step : Step) (y : C) (handle : Option CredentialsBuffers)
        (After : D → Type 0) : Type 0 where
      pub done : (h : Option CredentialsBuffers) (log : List Asked) (kdc2 : D) (s : Step) (m : C) → k.replies kdc log kdc2 →
          Walked c old h token 0 log (Done s) m → (s ≡ step) × (cleared c m ≡ y) × (h ≡ handle) × After kdc2
      pub never : (h : Option CredentialsBuffers) (log : List Asked) (kdc2 : D) (error : Error) (m : C) → k.replies kdc log kdc2 →
          error.error_type ≢ InsufficientMemory → Walked c old h token 0 log (Refused error) m → ⊥

    -- what a turn of the authentication is given
    pub record NegoGiven (a old : View) (w : ℕ) (first : Bool) (kdc : D) (d : TsRequest) (step : Step) (y : C)
        (handle : Option CredentialsBuffers)
        (After : D → Type 0) : Type 0 where
      pub is : ClientIs c a old w first NegoToken 0 0
      pub walks : Walks old kdc d.nego_tokens step y handle After
      pub version : d.version ≡ w
      pub code : is_code d.error_code ≡ false
      pub begins : (kind : ErrorKind) → BeginCause c (ForClient a.settings.mode) Outbound (Some a.settings.credentials) kind → ⊥

    -- what its step left
    record Left (mid : View) (y : C) (handle : Option CredentialsBuffers) (After : D → Type 0) (kdc2 : D) (step : Step) : Type 0 where
      pub output_is : mid.output ≡ step.output
      pub holds : Holds c mid.context y
      pub idle : is_waiting_in c mid.context ≡ false
      pub handle_is : mid.handle ≡ handle
      pub after : After kdc2

    module _ (a old : View) (w : ℕ) (first : Bool) (kdc : D) (d : TsRequest) (step : Step) (y : C) (handle : Option CredentialsBuffers)
        (After : D → Type 0) (given : NegoGiven a old w first kdc d step y handle After) where
      counts_on : (mid : View) → CountsEachAct c old.state old.context mid.acts mid.context → AddsActs c old.context mid.acts mid.context
      counts_on mid = counted_by c old.state old.context mid.acts mid.context
          (λ nego. unused_in c old.context given.is.sealed_is given.is.unsealed_is)

      walked_at : (mid : View) (kdc2 : D) (st : SecurityStatus) (log : List Asked) → k.replies kdc log kdc2 →
          StepsTo c old d 0 log (Done (record { status = st; output = mid.output })) mid → (st ≡ step.status) ×
          Left mid y handle After kdc2 step
      walked_at mid kdc2 st log replied h =
          let there = in_context mid.context _ h in
          let s = given.walks.done mid.handle log kdc2 _ there.0 replied there.2 in (
            ap (λ (x : Step). x.status) s.0,
            record {
              output_is = ap (λ (x : Step). x.output) s.0;
              holds = record { held = there.0; there = there.1; same = s.1 };
              idle = ap (is_waiting_in c) there.1 ∙ done_idle old mid.handle d.nego_tokens 0 log _ _ there.0 refl there.2;
              handle_is = s.2;
              after = s.3;
            },
          )

      replied_at : (mid : View) (kdc2 : D) (status : Option SecurityStatus) (log : List Asked) (r : TsRequest) → k.replies kdc log kdc2 →
          ShowsNego (client_shown (client_frame c old mid)) (client_turn c d (outcome.Reply r) mid) status r →
          DoneStep c status old d 0 log mid →
          (status ≡ Some step.status) × Left mid y handle After kdc2 step
      replied_at mid kdc2 None log r replied h done = absurd h
      replied_at mid kdc2 (Some st) log r replied h done = let s = walked_at mid kdc2 st log replied done in (ap Some s.0, s.1)

      refused_at : (mid : View) (kdc2 : D) (status : Option SecurityStatus) (negotiated : Bool) (log : List Asked) (error : Error) →
          k.replies kdc log kdc2 →
          negotiated ≡ true → error.error_type ≢ InsufficientMemory →
          OnStep c negotiated (StepsTo c old d 0 log (refused_answer status mid.output error) mid) →
          (status ≡ Some step.status) × Left mid y handle After kdc2 step
      refused_at mid kdc2 None true log error replied was others h =
          let there = in_context mid.context _ h in absurd (given.walks.never mid.handle log kdc2 error there.0 replied others there.2)
      refused_at mid kdc2 (Some st) true log error replied was others h = let s = walked_at mid kdc2 st log replied h in (ap Some s.0, s.1)
      refused_at mid kdc2 status false log error replied was others h = absurd cc

      never_made : (kind : ErrorKind) → BeginCause c (ForClient old.settings.mode) Outbound (Some old.settings.credentials) kind → ⊥
      never_made kind h =
          given.begins kind
          (subst (λ (s : ClientSettings). BeginCause c (ForClient s.mode) Outbound (Some s.credentials) kind) given.is.same h)

      -- a refusal comes after what a turn checks first
      nego_cause : (mid : View) (kind : ErrorKind) → ClientCause c old d mid kind → kind ≢ InsufficientMemory →
          NegoCause c mid.acts.status mid kind
      nego_cause mid kind cause others =
          let past : OrMemory kind (MadeOr old.context mid.context
          (BeginCause c (ForClient old.settings.mode) Outbound (Some old.settings.credentials) kind) (StateCause c old.state d mid kind)) =
          stops_later _ MessageAltered kind _ (rw given.version given.is.fits)
          (stops_later _ DowngradeDetected kind _ (rw given.version given.is.young)
          (stops_later _ InvalidToken kind _ given.code (stops_later _ OutOfSequence kind _ given.is.idle cause))) in
          subst (λ (s : CredSspState). StateCause c s d mid kind) given.is.state_is
          (made_past old.context mid.context _ _ (λ none. never_made kind) (past others))

      began : (status : Option SecurityStatus) (mid : View) (kind : ErrorKind) → mid.acts.status ≡ status →
          (IsSome mid.acts.status → mid.acts.negotiated ≡ true) →
          NegoCause c status mid kind → mid.acts.negotiated ≡ true
      began None mid kind is answered h = h
      began (Some status) mid kind is answered h = answered (rw is refl)

      -- what a refusal of such a turn rests on
      record Refusal (mid : View) (kdc2 : D) (kind : ErrorKind) : Type 0 where
        pub turn : ClientTurn c old d (outcome.Refused kind None) mid
        pub left : Left mid y handle After kdc2 step
        pub cause : NegoCause c (Some step.status) mid kind

      refusal : (mid : View) (kdc2 : D) (kind : ErrorKind) → ClientMakes c k old kdc d (outcome.Refused kind None) mid kdc2 →
          kind ≢ InsufficientMemory → Refusal mid kdc2 kind
      refusal mid kdc2 kind makes others =
          let error = makes.0 in
          let takes = makes.2 in
          let turn = takes.turn in
          let others2 : error.error_type ≢ InsufficientMemory = λ memory. others (sym makes.1 ∙ memory) in
          let cause = nego_cause mid error.error_type takes.cause.kind others2 in
          let was = began mid.acts.status mid error.error_type refl turn.turn.shown.acts.answered cause in
          let s = refused_at mid kdc2 mid.acts.status mid.acts.negotiated takes.asked error takes.replied was others2 takes.step in
          record {
            turn = subst (λ (e : ErrorKind). ClientTurn c old d (outcome.Refused e None) mid) makes.1 turn;
            left = s.1;
            cause = subst (λ (x : ErrorKind). NegoCause c (Some step.status) mid x) makes.1
                (subst (λ (x : Option SecurityStatus). NegoCause c x mid error.error_type) s.0 cause);
          }

      never_ends : (mid : View) (kdc2 : D) (r : TsRequest) → ClientMakes c k old kdc d (outcome.Final r) mid kdc2 → ⊥
      never_ends mid kdc2 r makes = let auth = makes.turn.turn.shown.reply.state in let nego = given.is.state_is in cc

      noted_now : (mid : View) → mid.noted ≡ noted_next c old d → mid.noted ≡ noted_at first w
      noted_now mid noted = noted ∙ ap (noted_in old.context old.settings.least old.noted) given.version ∙ given.is.notes

      -- ---- a token

      token_replied : (w2 : ℕ) (mid : View) (kdc2 : D) (r : TsRequest) → step.status ≡ statuses.ContinueNeeded → (first ≡ false → w2 ≡ w) →
          nat_lt w2 a.settings.least ≡ false →
          ClientMakes c k old kdc d (outcome.Reply r) mid kdc2 →
          (r ≡ record d { version = a.settings.version; nego_tokens = Some step.output }) × ClientIs c a mid w2 false NegoToken 0 0 ×
          Holds c mid.context y
          × (mid.handle ≡ handle) × After kdc2
      token_replied w2 mid kdc2 r goes peer takes makes =
          let turn = makes.turn in
          let frame = client_frame c old mid in
          let t = client_turn c d (outcome.Reply r) mid in
          let s = replied_at mid kdc2 mid.acts.status makes.asked r makes.replied turn.turn.shown.reply makes.step in
          let status : mid.acts.status ≡ Some statuses.ContinueNeeded = s.0 ∙ ap Some goes in
          let token : ShowsToken (client_shown frame) t r = subst
          (λ (x : Option SecurityStatus). ShowsNego (client_shown frame) t x r) status turn.turn.shown.reply in
          let quiet = nego_acts frame t turn.turn.shown.acts given.is.state_is in
          let unproved : mid.acts.proved ≡ false = is_false mid.acts.proved (λ was. let ok = (turn.turn.shown.acts.proved was).0 in cc) in
          let none_sealed : sealings_by mid.acts ≡ 0 = rw (unproved, quiet.1) refl in
          let none_opened : unsealings_by mid.acts ≡ 0 = rw (quiet.0, quiet.2) refl in
          let same = turn.moves.same ∙ given.is.same in
          let later = takes_later c mid s.1.holds.held first w w2 peer (rw same takes) s.1.holds.there
          (noted_now mid turn.moves.noted_going) in (
            token_is frame t r token ∙ (rw (same, s.1.output_is) refl),
            record {
              same = same;
              state_is = turn.moves.state ∙ (rw (unproved, given.is.state_is) refl);
              idle = s.1.idle;
              fits = later.fits;
              young = later.young;
              notes = later.notes;
              sealed_is = (counts_on mid turn.moves.counts).0 ∙ (rw (given.is.sealed_is, none_sealed) refl);
              unsealed_is = (counts_on mid turn.moves.counts).1 ∙ (rw (given.is.unsealed_is, none_opened) refl);
            },
            s.1.holds,
            s.1.handle_is,
            s.1.after,
          )

      pub token_turn : (w2 : ℕ) (out : Outcome) (mid : View) (kdc2 : D) → step.status ≡ statuses.ContinueNeeded → (first ≡ false → w2 ≡ w) →
          nat_lt w2 a.settings.least ≡ false →
          ClientMakes c k old kdc d out mid kdc2 →
          Comes out (λ r. (r ≡ record d { version = a.settings.version; nego_tokens = Some step.output }) ×
          ClientIs c a mid w2 false NegoToken 0 0 × Holds c mid.context y
          × (mid.handle ≡ handle) × After kdc2)
      token_turn w2 (outcome.Reply r) mid kdc2 goes peer takes makes = token_replied w2 mid kdc2 r goes peer takes makes
      token_turn w2 (outcome.Final r) mid kdc2 goes peer takes makes = absurd (never_ends mid kdc2 r makes)
      token_turn w2 outcome.Finished mid kdc2 goes peer takes makes = makes
      token_turn w2 (outcome.Refused kind None) mid kdc2 goes peer takes makes =
          λ others. subst (λ (x : SecurityStatus). NegoCause c (Some x) mid kind) goes (refusal mid kdc2 kind makes others).cause
      token_turn w2 (outcome.Refused kind (Some r)) mid kdc2 goes peer takes makes = absurd makes

      -- ---- the proof

      module _ (blob : ℕ → List ℕ → List ℕ) (maker : IsMaker c y blob) (later : first ≡ false) where
        proof_replied : (mid : View) (kdc2 : D) (r : TsRequest) → step.status ≡ statuses.Ok →
            ClientMakes c k old kdc d (outcome.Reply r) mid kdc2 →
            (r ≡ record d {
              version = a.settings.version;
              nego_tokens = unless_empty step.output;
              client_nonce = Some a.settings.nonce;
              pub_key_auth = Some (blob 0 (prescribed Client w a.settings.nonce a.settings.public_key));
            }) × ClientIs c a mid w false AuthInfo 1 0 × Holds c mid.context y × After kdc2
        proof_replied mid kdc2 r ends makes =
            let turn = makes.turn in
            let frame = client_frame c old mid in
            let t = client_turn c d (outcome.Reply r) mid in
            let s = replied_at mid kdc2 mid.acts.status makes.asked r makes.replied turn.turn.shown.reply makes.step in
            let status : mid.acts.status ≡ Some statuses.Ok = s.0 ∙ ap Some ends in
            let proof : ShowsProof (client_shown frame) t r =
            subst (λ (x : Option SecurityStatus). ShowsNego (client_shown frame) t x r) status turn.turn.shown.reply in
            let held : HoldsProof c frame r = subst (λ (x : Option SecurityStatus). HoldsNego c frame x r) status turn.turn.held.reply in
            let quiet = nego_acts frame t turn.turn.shown.acts given.is.state_is in
            let one : sealings_by mid.acts ≡ 1 = rw (proof.proved, quiet.1) refl in
            let none_opened : unsealings_by mid.acts ≡ 0 = rw (quiet.0, quiet.2) refl in
            let sealed_now : sealings_in c mid.context ≡ 1 = (counts_on mid turn.moves.counts).0 ∙ (rw (given.is.sealed_is, one) refl) in
            let noted : mid.noted ≡ Some w = noted_now mid turn.moves.noted_going ∙ ap (λ (x : Bool). noted_at x w) later in
            let more = takes_noted c mid s.1.holds.held w s.1.holds.there noted in
            let same = turn.moves.same ∙ given.is.same in
            let seals = subst (λ (x : Option ℕ). AtNoted x (λ n. SealsIn c mid.context (sealings_in c mid.context - 1)
            (prescribed Client n mid.settings.nonce mid.settings.public_key) r.pub_key_auth))
            noted held.proof in
            let field = sealed_field c mid.context y blob _ _ r.pub_key_auth s.1.holds maker seals in
            let field_is : r.pub_key_auth ≡ Some (blob 0 (prescribed Client w a.settings.nonce a.settings.public_key)) =
            field ∙ (rw (sealed_now, same) refl) in (
              proof_is frame t r proof held.nonce ∙ (rw (same, s.1.output_is, field_is) refl),
              record {
                same = same;
                state_is = turn.moves.state ∙ (rw proof.proved refl);
                idle = s.1.idle;
                fits = more.fits;
                young = more.young;
                notes = more.notes;
                sealed_is = sealed_now;
                unsealed_is = (counts_on mid turn.moves.counts).1 ∙ (rw (given.is.unsealed_is, none_opened) refl);
              },
              s.1.holds,
              s.1.after,
            )

        prove_never : (mid : View) (noted : Option ℕ) (context : Option C) (m : C) (kind : ErrorKind) → noted ≡ Some w →
            context ≡ Some m → cleared c m ≡ y →
            (c.counts m).sealings < 2 ^ 64 - 1 → ProveCause c noted context mid kind → ⊥
        prove_never mid noted context m kind is there same few cause =
            let at : ProveCause c (Some w) (Some m) mid kind =
            subst (λ (x : Option C). ProveCause c (Some w) x mid kind) there
            (subst (λ (x : Option ℕ). ProveCause c x context mid kind) is cause) in
            maker.never m _ kind same few at

        proof_refused : (mid : View) (kdc2 : D) (kind : ErrorKind) → step.status ≡ statuses.Ok →
            ClientMakes c k old kdc d (outcome.Refused kind None) mid kdc2 →
            kind ≢ InsufficientMemory → ⊥
        proof_refused mid kdc2 kind ends makes others =
            let x = refusal mid kdc2 kind makes others in
            let noted : mid.noted ≡ Some w =
            noted_now mid (x.turn.moves.noted ∙ (rw (given.is.idle, given.code) refl)) ∙ ap (λ (b : Bool). noted_at b w) later in
            let sealed = (counts_on mid x.turn.moves.counts).0 in
            let before = given.is.sealed_is in
            let two = sealed_few mid.acts in
            let here : sealings_in c mid.context ≡ (c.counts x.left.holds.held).sealings = ap (sealings_in c) x.left.holds.there in
            prove_never mid mid.noted mid.context x.left.holds.held kind noted x.left.holds.there x.left.holds.same
            (omega (arith, sealed, before, two, here))
            (subst (λ (s : SecurityStatus). NegoCause c (Some s) mid kind) ends x.cause)

        pub proof_turn : (out : Outcome) (mid : View) (kdc2 : D) → step.status ≡ statuses.Ok → ClientMakes c k old kdc d out mid kdc2 →
            Comes out (λ r. (r ≡ record d {
              version = a.settings.version;
              nego_tokens = unless_empty step.output;
              client_nonce = Some a.settings.nonce;
              pub_key_auth = Some (blob 0 (prescribed Client w a.settings.nonce a.settings.public_key));
            }) × ClientIs c a mid w false AuthInfo 1 0 × Holds c mid.context y × After kdc2)
        proof_turn (outcome.Reply r) mid kdc2 ends makes = proof_replied mid kdc2 r ends makes
        proof_turn (outcome.Final r) mid kdc2 ends makes = absurd (never_ends mid kdc2 r makes)
        proof_turn outcome.Finished mid kdc2 ends makes = makes
        proof_turn (outcome.Refused kind None) mid kdc2 ends makes = λ others. proof_refused mid kdc2 kind ends makes others
        proof_turn (outcome.Refused kind (Some r)) mid kdc2 ends makes = absurd makes
