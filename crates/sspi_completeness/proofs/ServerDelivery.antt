-- The last turn of a server in an undisturbed exchange: it opens the client's credentials.
use Rattle.std.proofs.Common.{◌≡◌, ◌≢◌, ℕ, List, Bool, true, false, Option, Some, Ok, Err, refl, ap, sym, ◌∙◌, subst, arith}
use Rattle.sspi_types.specs.declared.error_kind.ErrorKind.{ErrorKind}
use Rattle.sspi_types.specs.declared.error_kind.ErrorKind.TheVariants.{InvalidToken, InsufficientMemory}
use Rattle.sspi_names.specs.declared.identity.AuthIdentity.{AuthIdentity}
use Rattle.sspi_tsreq.specs.declared.request.TsRequest.{TsRequest}
use Rattle.sspi_mech.specs.Context.{IsContext}
use Rattle.sspi_mech.specs.Meaning.{Meaning}
use Rattle.sspi_credssp.specs.declared.state.CredSspState.{CredSspState}
use Rattle.sspi_credssp.specs.declared.state.CredSspState.TheVariants.{AuthInfo}
use Rattle.sspi_credssp.specs.Acts.{unsealings_by, unsealings_in, SameBut, cleared}
use Rattle.sspi_credssp.specs.Context.{ContextSetting}
use Rattle.sspi_credssp.specs.Exchange.{delegated_identity, OpensIdentity, opens_identity, BlobStops}
use Rattle.sspi_credssp.specs.Proxy.{ProxyMeaning}
use Rattle.sspi_credssp.specs.Ends.{ServerView}
use Rattle.sspi_credssp.specs.ServerCause.{UnreadCause, unread, OpenedCause}
use Rattle.sspi_credssp.specs.ServerTurn.{HoldsIdentity, server_frame, server_turn}
use Rattle.sspi_credssp.specs.Turn.{OnceNegotiated, MayCheck, ShowsStateBack, server_shown}
use Rattle.sspi_credssp.specs.declared.turn.Outcome.{Outcome}
use Rattle.sspi_credssp.specs.declared.turn.Outcome.TheVariants as outcome
use Rattle.sspi_delegate.specs.History.{ServerMakes}
use Rattle.sspi_credssp.proofs.Counting.{counted_by}
use Rattle.sspi_completeness.proofs.Ends.{Ends, is_false, stops_later, Holds, IsTaker, holds_still, ServerIs}
use Rattle.sspi_completeness.proofs.ServerTurns.{cause_past}

module _ {C P : Type 0} (c : Meaning ContextSetting C) (laws : IsContext c) (p : ProxyMeaning P) where
  abbrev View : Type 0
  View = ServerView C P

  -- what the turn is given: the client's credentials, sealed as its second message
  pub record DeliveryGiven (b old : View) (w : ℕ) (d : TsRequest) (z : C) (peers : ℕ → List ℕ → List ℕ) (text : List ℕ)
      (identity : AuthIdentity) : Type 0 where
    pub is : ServerIs c b old w AuthInfo 1 1
    pub holds : Holds c old.context z
    pub taker : IsTaker c z peers
    pub version : d.version ≡ w
    pub field : d.auth_info ≡ Some (peers 1 text)
    pub delegates : delegated_identity text ≡ Ok identity

  bare_at : (state : CredSspState) (Q : Type 0) → state ≡ AuthInfo → OnceNegotiated state Q → Q
  bare_at state Q auth h = subst (λ (s : CredSspState). OnceNegotiated s Q) auth h

  module _ (b old : View) (w : ℕ) (d : TsRequest) (z : C) (peers : ℕ → List ℕ → List ℕ) (text : List ℕ) (identity : AuthIdentity)
      (given : DeliveryGiven b old w d z peers text identity) where
    never_replies : (mid : View) (r : TsRequest) → ServerMakes c p old d (outcome.Reply r) mid → ⊥
    never_replies mid r makes =
        subst (λ (s : CredSspState). ShowsStateBack (server_shown (server_frame c old mid)) (server_turn c d (outcome.Reply r) mid) s r)
        given.is.state_is makes.turn.turn.shown.reply

    held_now : (mid : View) → OnceNegotiated old.state (SameBut c old.context mid.context) → Holds c mid.context z
    held_now mid bare = holds_still c old.context mid.context z (bare_at old.state _ given.is.state_is bare) given.holds

    identity_of : (m : C) (identity2 : AuthIdentity) → cleared c m ≡ z → OpensIdentity c m (peers 1 text) identity2 → identity2 ≡ identity
    identity_of m identity2 same (opens_identity text2 opens is) =
        let one : text2 ≡ text = given.taker.opened m 1 _ text text2 same opens in
        let both : Ok identity2 ≡ Ok identity = sym is ∙ ap delegated_identity one ∙ given.delegates in cc

    gives : (mid : View) (identity2 : AuthIdentity) → ServerMakes c p old d outcome.Finished mid →
        HoldsIdentity c mid.context d.auth_info identity2 → identity2 ≡ identity
    gives mid identity2 makes holds =
        let h = held_now mid makes.1.turn.0.moves.bare in
        identity_of h.held identity2 h.same
        (subst (λ (f : Option (List ℕ)). HoldsIdentity c (Some h.held) f identity2) given.field
        (subst (λ (o : Option C). HoldsIdentity c o d.auth_info identity2) h.there holds))

    unread_never : (m : C) (kind : ErrorKind) → cleared c m ≡ z → UnreadCause c m (peers 1 text) kind → ⊥
    unread_never m kind same (unread text2 error opens is kind_is) =
        let one : text2 ≡ text = given.taker.opened m 1 _ text text2 same opens in
        let never : Err error ≡ Ok identity = sym is ∙ ap delegated_identity one ∙ given.delegates in cc

    opened_never : (opened : Bool) (m : C) (kind : ErrorKind) → cleared c m ≡ z → (opened ≡ false → (c.counts m).unsealings ≡ 1) →
        OpenedCause c opened (Some m) (peers 1 text) kind → ⊥
    opened_never false m kind same next h = given.taker.never m 1 text kind same (next refl) (omega arith) h
    opened_never true m kind same next h = unread_never m kind same h

    delivery_refused : (mid : View) (kind : ErrorKind) (reply : Option TsRequest) →
        ServerMakes c p old d (outcome.Refused kind reply) mid → kind ≢ InsufficientMemory → ⊥
    delivery_refused mid kind reply makes others =
        let error = makes.0 in
        let turn = makes.2.turn in
        let others2 : error.error_type ≢ InsufficientMemory = λ memory. others (sym makes.1 ∙ memory) in
        let cause = cause_past c laws p b old mid w d AuthInfo 1 1 error.error_type given.is given.version
        (λ none. absurd (cc (none, given.holds.there))) makes.2.cause.kind others2 in
        let at_blob = subst (λ (f : Option (List ℕ)). BlobStops f error.error_type
        (λ blob. OpenedCause c mid.acts.opened mid.context blob error.error_type)) given.field cause in
        let later = stops_later _ InvalidToken error.error_type _ (given.taker.long 1 text) at_blob in
        let h = held_now mid turn.moves.bare in
        let at = subst (λ (o : Option C). OpenedCause c mid.acts.opened o (peers 1 text) error.error_type) h.there later in
        let opened = (counted_by c old.state old.context mid.acts mid.context (λ nego. let auth = given.is.state_is in absurd cc)
        turn.moves.counts).1 in
        let before = given.is.unsealed_is in
        let here : unsealings_in c mid.context ≡ (c.counts h.held).unsealings = ap (unsealings_in c) h.there in
        let unchecked : mid.acts.checked ≡ false = is_false mid.acts.checked (λ was.
        subst (λ (s : CredSspState). MayCheck s mid.acts.status) given.is.state_is (turn.turn.shown.acts.checked was).0) in
        opened_never mid.acts.opened h.held error.error_type h.same
        (λ unopened. let none : unsealings_by mid.acts ≡ 0 = rw (unchecked, unopened) refl in omega (arith, opened, before, here, none)) at

    pub last_turn : (out : Outcome) (mid : View) → ServerMakes c p old d out mid →
        Ends out ((identity2 : AuthIdentity) → HoldsIdentity c mid.context d.auth_info identity2 → identity2 ≡ identity)
    last_turn (outcome.Reply r) mid makes = never_replies mid r makes
    last_turn (outcome.Final r) mid makes = makes
    last_turn outcome.Finished mid makes = λ identity2 holds. gives mid identity2 makes holds
    last_turn (outcome.Refused kind reply) mid makes = λ others. delivery_refused mid kind reply makes others
