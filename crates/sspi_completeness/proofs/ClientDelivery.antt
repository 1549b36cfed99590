-- The last turn of a client in an undisturbed exchange: it opens the server's proof and seals its credentials.
use Rattle.std.proofs.Common.{◌≡◌, ◌≢◌, ℕ, ◌-◌, ◌<◌, ◌^◌, List, Bool, true, false, Option, None, Some, Result, Ok, refl, ap, sym, ◌∙◌}
use Rattle.std.proofs.Common.{subst, arith}
use Rattle.sspi_types.specs.declared.credential_use.CredentialUse.TheVariants.{Outbound}
use Rattle.sspi_types.specs.declared.error.Error.{Error}
use Rattle.sspi_types.specs.declared.error_kind.ErrorKind.{ErrorKind}
use Rattle.sspi_types.specs.declared.error_kind.ErrorKind.TheVariants.{OutOfSequence, InvalidToken, MessageAltered, DowngradeDetected}
use Rattle.sspi_types.specs.declared.error_kind.ErrorKind.TheVariants.{InsufficientMemory}
use Rattle.sspi_types.specs.declared.security_status.SecurityStatus.{SecurityStatus}
use Rattle.sspi_types.specs.declared.security_status.SecurityStatus.TheVariants as statuses
use Rattle.sspi_tsreq.specs.declared.request.TsRequest.{TsRequest}
use Rattle.sspi_mech.specs.Meaning.{Meaning}
use Rattle.sspi_credssp.specs.declared.public_key.EndpointType.TheVariants.{Server}
use Rattle.sspi_credssp.specs.declared.state.CredSspState.{CredSspState}
use Rattle.sspi_credssp.specs.declared.state.CredSspState.TheVariants.{NegoToken, AuthInfo}
use Rattle.sspi_credssp.specs.Acts.{sealings_by, unsealings_by, sealings_in, unsealings_in, AddsActs, CountsEachAct}
use Rattle.sspi_credssp.specs.Acts.{SealsIn, SameBut, cleared}
use Rattle.sspi_credssp.specs.Context.{BeginCause, ContextSetting, ForClient, MadeOr}
use Rattle.sspi_credssp.specs.Ends.{ClientSettings, ClientView}
use Rattle.sspi_credssp.specs.ClientCause.{ClientCause, StateCause, DeliverCause, BlobOpens, SealsCause}
use Rattle.sspi_credssp.specs.Noted.{OrMemory}
use Rattle.sspi_credssp.specs.ClientTurn.{client_frame, client_turn}
use Rattle.sspi_credssp.specs.Turn.{ClientFrame, OnceNegotiated, ShowsNego, client_shown}
use Rattle.sspi_credssp.specs.Exchange.{delegated_text, IfText, BlobStops, opens_other, altered, unsealed, CheckedCause, ProofCause}
use Rattle.sspi_credssp.specs.Exchange.{prescribed}
use Rattle.sspi_credssp.specs.Requests.{is_code}
use Rattle.sspi_credssp.specs.declared.turn.Outcome.{Outcome}
use Rattle.sspi_credssp.specs.declared.turn.Outcome.TheVariants as outcome
use Rattle.sspi_delegate.specs.Chain.{KdcCalls}
use Rattle.sspi_delegate.specs.History.{ClientMakes}
use Rattle.sspi_credssp.proofs.Counting.{counted_by}
use Rattle.sspi_completeness.proofs.Ends.{Comes, is_false, stops_later, made_past, sealed_few, Holds, IsMaker, IsTaker, holds_still}
use Rattle.sspi_completeness.proofs.Ends.{sealed_field, ClientIs}
use Rattle.sspi_completeness.proofs.Replies.{final_is}
use Rattle.sspi_credssp.specs.declared.turn.Turn.{Turn}

module _ {C D : Type 0} (c : Meaning ContextSetting C) (k : KdcCalls D) where
  abbrev View : Type 0
  View = ClientView C

  -- what the turn is given: the server's proof, sealed as its first message, and credentials that have a text
  pub record DeliveryGiven (a old : View) (w : ℕ) (d : TsRequest) (y : C) (own peers : ℕ → List ℕ → List ℕ) (text : List ℕ) : Type 0 where
    pub is : ClientIs c a old w false AuthInfo 1 0
    pub holds : Holds c old.context y
    pub maker : IsMaker c y own
    pub taker : IsTaker c y peers
    pub version : d.version ≡ w
    pub code : is_code d.error_code ≡ false
    pub proof : d.pub_key_auth ≡ Some (peers 0 (prescribed Server w a.settings.nonce a.settings.public_key))
    pub text_is : delegated_text a.settings.credentials a.settings.delegation ≡ Ok text
    pub begins : (kind : ErrorKind) → BeginCause c (ForClient a.settings.mode) Outbound (Some a.settings.credentials) kind → ⊥

  reply_nego : (frame : ClientFrame C) (t : Turn) (status : Option SecurityStatus) (reply : TsRequest) →
      ShowsNego (client_shown frame) t status reply → frame.state ≡ NegoToken
  reply_nego frame t None reply h = absurd h
  reply_nego frame t (Some statuses.Ok) reply h = h.state
  reply_nego frame t (Some other) reply h = h.state

  bare_at : (state : CredSspState) (P : Type 0) → state ≡ AuthInfo → OnceNegotiated state P → P
  bare_at state P auth h = subst (λ (s : CredSspState). OnceNegotiated s P) auth h

  module _ (a old : View) (w : ℕ) (d : TsRequest) (y : C) (own peers : ℕ → List ℕ → List ℕ) (text : List ℕ)
      (given : DeliveryGiven a old w d y own peers text) (kdc : D) where
    abbrev proof_text : List ℕ
    proof_text = prescribed Server w a.settings.nonce a.settings.public_key

    never_replies : (mid : View) (kdc2 : D) (r : TsRequest) → ClientMakes c k old kdc d (outcome.Reply r) mid kdc2 → ⊥
    never_replies mid kdc2 r makes =
        let nego = reply_nego (client_frame c old mid) (client_turn c d (outcome.Reply r) mid) mid.acts.status r
        makes.turn.turn.shown.reply in
        let auth = given.is.state_is in cc

    counts_on : (mid : View) → CountsEachAct c old.state old.context mid.acts mid.context → AddsActs c old.context mid.acts mid.context
    counts_on mid = counted_by c old.state old.context mid.acts mid.context (λ nego. let auth = given.is.state_is in absurd cc)

    held_now : (mid : View) → OnceNegotiated old.state (SameBut c old.context mid.context) → Holds c mid.context y
    held_now mid bare = holds_still c old.context mid.context y (bare_at old.state _ given.is.state_is bare) given.holds

    texts_of : (mid : View) → mid.settings ≡ old.settings →
        delegated_text mid.settings.credentials mid.settings.delegation ≡ Ok text
    texts_of mid same = ap (λ (s : ClientSettings). delegated_text s.credentials s.delegation) (same ∙ given.is.same) ∙ given.text_is

    delivered : (mid : View) (kdc2 : D) (r : TsRequest) → ClientMakes c k old kdc d (outcome.Final r) mid kdc2 →
        r ≡ record d { version = a.settings.version; nego_tokens = None; pub_key_auth = None; auth_info = Some (own 1 text) }
    delivered mid kdc2 r makes =
        let turn = makes.turn in
        let final = turn.turn.shown.reply in
        let holds = held_now mid turn.moves.bare in
        let unproved : mid.acts.proved ≡ false = is_false mid.acts.proved (λ was.
        let answered = turn.turn.shown.acts.answered (rw (turn.turn.shown.acts.proved was).0 refl) in
        let nego = turn.turn.shown.acts.negotiated answered in let auth = given.is.state_is in cc) in
        let one : sealings_by mid.acts ≡ 1 = rw (unproved, final.sealed) refl in
        let sealed_now : sealings_in c mid.context ≡ 2 = (counts_on mid turn.moves.counts).0 ∙ (rw (given.is.sealed_is, one) refl) in
        let seals = subst (λ (x : Result (List ℕ) Error). IfText x
        (λ text. SealsIn c mid.context (sealings_in c mid.context - 1) text r.auth_info))
        (texts_of mid turn.moves.same) turn.turn.held.reply in
        let field = sealed_field c mid.context y own _ text r.auth_info holds given.maker seals in
        let field_is : r.auth_info ≡ Some (own 1 text) = field ∙ (rw sealed_now refl) in
        let same = turn.moves.same ∙ given.is.same in
        final_is (client_frame c old mid) (client_turn c d (outcome.Final r) mid) r final ∙ (rw (same, field_is) refl)

    never_made : (kind : ErrorKind) → BeginCause c (ForClient old.settings.mode) Outbound (Some old.settings.credentials) kind → ⊥
    never_made kind h =
        given.begins kind
        (subst (λ (s : ClientSettings). BeginCause c (ForClient s.mode) Outbound (Some s.credentials) kind) given.is.same h)

    deliver_cause : (mid : View) (kind : ErrorKind) → ClientCause c old d mid kind → kind ≢ InsufficientMemory →
        DeliverCause c d.pub_key_auth mid kind
    deliver_cause mid kind cause others =
        let past : OrMemory kind (MadeOr old.context mid.context
        (BeginCause c (ForClient old.settings.mode) Outbound (Some old.settings.credentials) kind) (StateCause c old.state d mid kind)) =
        stops_later _ MessageAltered kind _ (rw given.version given.is.fits)
        (stops_later _ DowngradeDetected kind _ (rw given.version given.is.young)
        (stops_later _ InvalidToken kind _ given.code (stops_later _ OutOfSequence kind _ given.is.idle cause))) in
        subst (λ (s : CredSspState). StateCause c s d mid kind) given.is.state_is
        (made_past old.context mid.context _ _ (λ none. never_made kind) (past others))

    seals_never : (m : C) (kind : ErrorKind) (texts : Result (List ℕ) Error) → texts ≡ Ok text → cleared c m ≡ y →
        (c.counts m).sealings < 2 ^ 64 - 1 →
        SealsCause c m texts kind → ⊥
    seals_never m kind texts is same few h = given.maker.never m text kind same few
        (subst (λ (r : Result (List ℕ) Error). SealsCause c m r kind) is h)

    checked_never : (m : C) (kind : ErrorKind) (texts : Result (List ℕ) Error) → texts ≡ Ok text → cleared c m ≡ y →
        (c.counts m).sealings < 2 ^ 64 - 1 →
        CheckedCause c m (peers 0 proof_text) proof_text (SealsCause c m texts kind) kind → ⊥
    checked_never m kind texts is same few (altered (opens_other text2 opens differs) kind_is) =
        differs (given.taker.opened m 0 _ proof_text text2 same opens)
    checked_never m kind texts is same few (unsealed opens h) = seals_never m kind texts is same few h

    opened_never : (checked : Bool) (m : C) (kind : ErrorKind) (texts : Result (List ℕ) Error) → texts ≡ Ok text → cleared c m ≡ y →
        (c.counts m).sealings < 2 ^ 64 - 1 →
        (checked ≡ false → (c.counts m).unsealings ≡ 0) → ProofCause c checked m (peers 0 proof_text) proof_text
        (SealsCause c m texts kind) kind → ⊥
    opened_never false m kind texts is same few next h = given.taker.never m 0 proof_text kind same (next refl) (omega arith) h
    opened_never true m kind texts is same few next h = checked_never m kind texts is same few h

    delivery_refused : (mid : View) (kdc2 : D) (kind : ErrorKind) → ClientMakes c k old kdc d (outcome.Refused kind None) mid kdc2 →
        kind ≢ InsufficientMemory → ⊥
    delivery_refused mid kdc2 kind makes others =
        let error = makes.0 in
        let turn = makes.2.turn in
        let others2 : error.error_type ≢ InsufficientMemory = λ memory. others (sym makes.1 ∙ memory) in
        let cause = deliver_cause mid error.error_type makes.2.cause.kind others2 in
        let blob = peers 0 proof_text in
        let stops = subst (λ (x : Option (List ℕ)). BlobStops x error.error_type
        (λ b. BlobOpens c mid.noted mid.context b mid error.error_type)) given.proof cause in
        let later = stops_later _ InvalidToken error.error_type _ (given.taker.long 0 proof_text) stops in
        let holds = held_now mid turn.moves.bare in
        let noted_now : mid.noted ≡ Some w = turn.moves.noted ∙ (rw (given.is.idle, given.code, given.version) given.is.notes) in
        let opens = subst (λ (x : Option C). BlobOpens c (Some w) x blob mid error.error_type) holds.there
        (subst (λ (x : Option ℕ). BlobOpens c x mid.context blob mid error.error_type) noted_now later) in
        let proof_is : prescribed Server w mid.settings.nonce mid.settings.public_key ≡ proof_text =
        ap (λ (s : ClientSettings). prescribed Server w s.nonce s.public_key) (turn.moves.same ∙ given.is.same) in
        let at = subst (λ (p : List ℕ). ProofCause c mid.acts.checked holds.held blob p
        (SealsCause c holds.held (delegated_text mid.settings.credentials mid.settings.delegation) error.error_type)
        error.error_type) proof_is opens in
        let sealed = (counts_on mid turn.moves.counts).0 in
        let opened = (counts_on mid turn.moves.counts).1 in
        let sealed_before = given.is.sealed_is in
        let opened_before = given.is.unsealed_is in
        let sealed_here : sealings_in c mid.context ≡ (c.counts holds.held).sealings = ap (sealings_in c) holds.there in
        let opened_here : unsealings_in c mid.context ≡ (c.counts holds.held).unsealings = ap (unsealings_in c) holds.there in
        let two = sealed_few mid.acts in
        opened_never mid.acts.checked holds.held error.error_type (delegated_text mid.settings.credentials mid.settings.delegation)
        (texts_of mid turn.moves.same) holds.same
        (omega (arith, sealed, sealed_before, sealed_here, two))
        (λ unchecked. let none : unsealings_by mid.acts ≡ 0 = rw (unchecked, turn.turn.shown.acts.opened) refl in omega
        (arith, opened, opened_before, opened_here, none))
        at

    pub last_turn : (out : Outcome) (mid : View) (kdc2 : D) → ClientMakes c k old kdc d out mid kdc2 →
        Comes out (λ r.
        r ≡ record d { version = a.settings.version; nego_tokens = None; pub_key_auth = None; auth_info = Some (own 1 text) })
    last_turn (outcome.Reply r) mid kdc2 makes = absurd (never_replies mid kdc2 r makes)
    last_turn (outcome.Final r) mid kdc2 makes = delivered mid kdc2 r makes
    last_turn outcome.Finished mid kdc2 makes = makes
    last_turn (outcome.Refused kind None) mid kdc2 makes = λ others. delivery_refused mid kdc2 kind makes others
    last_turn (outcome.Refused kind (Some r)) mid kdc2 makes = absurd makes
