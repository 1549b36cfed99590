-- What a turn adds to the texts that its end opened; and the text that a finishing server opened.
use Rattle.std.proofs.Common.{◌≡◌, ℕ, ◌+◌, ◌-◌, Bool, true, false, List, [], ◌∷◌, ◌++◌, Option, None, Some, Ok, sym, ap, ◌∙◌, subst, refl, arith}
use Rattle.sspi_mech.specs.Context.{IsContext}
use Rattle.sspi_mech.specs.Meaning.{Meaning}
use Rattle.sspi_names.specs.declared.identity.AuthIdentity.{AuthIdentity}
use Rattle.sspi_tsreq.specs.declared.request.TsRequest.{TsRequest}
use Rattle.sspi_credssp.specs.declared.state.CredSspState.{CredSspState}
use Rattle.sspi_credssp.specs.declared.state.CredSspState.TheVariants.{Final}
use Rattle.sspi_credssp.specs.declared.turn.Outcome.{Outcome}
use Rattle.sspi_credssp.specs.declared.turn.Outcome.TheVariants as outcome
use Rattle.sspi_credssp.specs.declared.turn.Turn.{Turn}
use Rattle.sspi_credssp.specs.Acts.{OpensIn, SameBut, count_of, unsealings_in}
use Rattle.sspi_credssp.specs.Context.{ContextSetting}
use Rattle.sspi_credssp.specs.Ends.{ServerView, IsFreshServer}
use Rattle.sspi_credssp.specs.Exchange.{delegated_identity, opens_identity}
use Rattle.sspi_credssp.specs.Proxy.{ProxyMeaning}
use Rattle.sspi_credssp.specs.ServerTurn.{HoldsIdentity, ServerTurn, server_frame, server_turn}
use Rattle.sspi_credssp.specs.Turn.{OnceNegotiated, ShowsStateBack, server_shown}
use Rattle.sspi_delegate.proofs.HistoryRuns.{server_history_follows, server_turn_of}
use Rattle.sspi_credssp.proofs.Walks.{recounted_as}
use Rattle.sspi_delegate.specs.History.{ServerHistory}
use Rattle.sspi_delegate.specs.Log.{IsFinished}
use Rattle.sspi_delegate.specs.Turns.{IsUnrefused, NoneRefused, opened_in, is_finished}
use Rattle.sspi_play.specs.Faithful.{IsOpened, OpensMore, HaveOpened}
use Rattle.sspi_play.specs.History.{GaveIn}

-- these turns opened nothing
abbrev pub NoneOpened : List Turn → Type 0
NoneOpened [] = Unit {0}
NoneOpened (t ∷ past) = (t.acts.checked ≡ false) × (t.acts.opened ≡ false) × NoneOpened past

-- ---- one more turn

module _ {C : Type 0} (c : Meaning ContextSetting C) (context : Option C) where
  pub opens_nothing : (t : Turn) (n : ℕ) (before : List (List ℕ)) → t.acts.checked ≡ false → t.acts.opened ≡ false →
      OpensMore c context t n before before
  opens_nothing t n before unchecked unopened = record {
    proof = [];
    credentials = [];
    proof_is = rw unchecked refl;
    credentials_are = rw unopened refl;
    all = refl;
  }

  pub opens_proof : (t : Turn) (n : ℕ) (before : List (List ℕ)) (text : List ℕ) → t.acts.checked ≡ true → t.acts.opened ≡ false →
      OpensIn c context n t.delivered.pub_key_auth text → OpensMore c context t n before (text ∷ before)
  opens_proof t n before text checked unopened opens = record {
    proof = text ∷ [];
    credentials = [];
    proof_is = rw checked (text, opens, refl);
    credentials_are = rw unopened refl;
    all = refl;
  }

  pub opens_credentials : (t : Turn) (n : ℕ) (before : List (List ℕ)) (text : List ℕ) → t.acts.checked ≡ false → t.acts.opened ≡ true →
      OpensIn c context n t.delivered.auth_info text → OpensMore c context t n before (text ∷ before)
  opens_credentials t n before text unchecked opened opens =
      let number : n ≡ n + count_of t.acts.checked = rw unchecked (omega arith) in
      record {
        proof = [];
        credentials = text ∷ [];
        proof_is = rw unchecked refl;
        credentials_are = rw opened
            (text, subst (λ (i : ℕ). OpensIn c context i t.delivered.auth_info text) number opens, refl);
        all = refl;
      }

  -- ---- and the other way round: what it added is what it opened

  added : (texts credentials proof before a b : List (List ℕ)) → texts ≡ credentials ++ proof ++ before → credentials ≡ a → proof ≡ b →
      texts ≡ a ++ b ++ before
  added texts credentials proof before a b all credentials_are proof_is = all ∙ (rw (credentials_are, proof_is) refl)

  pub added_nothing : (t : Turn) (n : ℕ) (before texts : List (List ℕ)) → t.acts.checked ≡ false → t.acts.opened ≡ false →
      OpensMore c context t n before texts → texts ≡ before
  added_nothing t n before texts unchecked unopened more =
      let proof : more.proof ≡ [] = subst (λ (b : Bool). IsOpened c context b n t.delivered.pub_key_auth more.proof) unchecked more.proof_is in
      let credentials : more.credentials ≡ [] =
      subst (λ (b : Bool). IsOpened c context b (n + count_of t.acts.checked) t.delivered.auth_info more.credentials) unopened
      more.credentials_are in
      added texts more.credentials more.proof before [] [] more.all credentials proof

  pub added_proof : (t : Turn) (n : ℕ) (before texts : List (List ℕ)) → t.acts.checked ≡ true → t.acts.opened ≡ false →
      OpensMore c context t n before texts →
      (text : List ℕ) × OpensIn c context n t.delivered.pub_key_auth text × (texts ≡ text ∷ before)
  added_proof t n before texts checked unopened more =
      let proof : (text : List ℕ) × OpensIn c context n t.delivered.pub_key_auth text × (more.proof ≡ text ∷ []) =
      subst (λ (b : Bool). IsOpened c context b n t.delivered.pub_key_auth more.proof) checked more.proof_is in
      let credentials : more.credentials ≡ [] =
      subst (λ (b : Bool). IsOpened c context b (n + count_of t.acts.checked) t.delivered.auth_info more.credentials) unopened
      more.credentials_are in
      (proof.0, proof.1, added texts more.credentials more.proof before [] (proof.0 ∷ []) more.all credentials proof.2)

  pub added_credentials : (t : Turn) (n : ℕ) (before texts : List (List ℕ)) → t.acts.checked ≡ false → t.acts.opened ≡ true →
      OpensMore c context t n before texts →
      (text : List ℕ) × OpensIn c context n t.delivered.auth_info text × (texts ≡ text ∷ before)
  added_credentials t n before texts unchecked opened more =
      let proof : more.proof ≡ [] = subst (λ (b : Bool). IsOpened c context b n t.delivered.pub_key_auth more.proof) unchecked more.proof_is in
      let credentials : (text : List ℕ) × OpensIn c context (n + count_of t.acts.checked) t.delivered.auth_info text
      × (more.credentials ≡ text ∷ []) =
      subst (λ (b : Bool). IsOpened c context b (n + count_of t.acts.checked) t.delivered.auth_info more.credentials) opened
      more.credentials_are in
      let number : n + count_of t.acts.checked ≡ n = rw unchecked (omega arith) in (
        credentials.0,
        subst (λ (i : ℕ). OpensIn c context i t.delivered.auth_info credentials.0) number credentials.1,
        added texts more.credentials more.proof before (credentials.0 ∷ []) [] more.all credentials.2 proof,
      )

  -- ---- turns that opened nothing

  pub none_counted : (turns : List Turn) → NoneOpened turns → opened_in turns ≡ 0
  none_counted [] none = refl
  none_counted (t ∷ past) none = rw (none.0, none.1, none_counted past none.2) refl

  pub opened_nothing : (turns : List Turn) → NoneOpened turns → HaveOpened c context turns []
  opened_nothing [] none = refl
  opened_nothing (t ∷ past) none = ([], opened_nothing past none.2, opens_nothing t (opened_in past) [] none.0 none.1)

  pub nothing_there : (turns : List Turn) (texts : List (List ℕ)) → NoneOpened turns → HaveOpened c context turns texts → texts ≡ []
  nothing_there [] texts none h = h
  nothing_there (t ∷ past) texts none h =
      added_nothing t (opened_in past) h.0 texts none.0 none.1 h.2 ∙ nothing_there past h.0 none.2 h.1

-- ---- one list at most

module _ {C : Type 0} (c : Meaning ContextSetting C) (law : IsContext c) where
  one_text_in : (context : Option C) (n : ℕ) (field : Option (List ℕ)) (text other : List ℕ) → OpensIn c context n field text →
      OpensIn c context n field other → text ≡ other
  one_text_in None n field text other opens again = absurd opens
  one_text_in (Some m) n None text other opens again = absurd opens
  one_text_in (Some m) n (Some blob) text other opens again = law.one_text m n blob text other opens again

  one_opened : (context : Option C) (was : Bool) (n : ℕ) (field : Option (List ℕ)) (texts others : List (List ℕ)) →
      IsOpened c context was n field texts → IsOpened c context was n field others → texts ≡ others
  one_opened context false n field texts others h again = h ∙ sym again
  one_opened context true n field texts others h again =
      h.2 ∙ ap (λ (x : List ℕ). x ∷ []) (one_text_in context n field h.0 again.0 h.1 again.1) ∙ sym again.2

  joined : (a b d x y z : List (List ℕ)) → a ≡ x → b ≡ y → d ≡ z → a ++ b ++ d ≡ x ++ y ++ z
  joined a b d x y z first second third = rw (first, second, third) refl

  pub one_list : (context : Option C) (turns : List Turn) (texts others : List (List ℕ)) → HaveOpened c context turns texts →
      HaveOpened c context turns others → texts ≡ others
  one_list context [] texts others h again = h ∙ sym again
  one_list context (t ∷ past) texts others h again =
      let more = h.2 in
      let other = again.2 in
      more.all
      ∙ joined more.credentials more.proof h.0 other.credentials other.proof again.0
      (one_opened context t.acts.opened _ t.delivered.auth_info more.credentials other.credentials more.credentials_are
      other.credentials_are)
      (one_opened context t.acts.checked _ t.delivered.pub_key_auth more.proof other.proof more.proof_is other.proof_is)
      (one_list context past h.0 again.0 h.1 again.1)
      ∙ sym other.all

-- ---- a server that finished

finished_unrefused : (out : Outcome) → IsFinished out → IsUnrefused out
finished_unrefused (outcome.Reply reply) is = absurd is
finished_unrefused (outcome.Final reply) is = absurd is
finished_unrefused outcome.Finished is = tt
finished_unrefused (outcome.Refused kind reply) is = absurd is

finished_is : (out : Outcome) → IsFinished out → is_finished out ≡ true
finished_is (outcome.Reply reply) is = absurd is
finished_is (outcome.Final reply) is = absurd is
finished_is outcome.Finished is = refl
finished_is (outcome.Refused kind reply) is = absurd is

module _ {C P : Type 0} (c : Meaning ContextSetting C) (law : IsContext c) (p : ProxyMeaning P) where
  -- a context that differs only in its counts opens the same text
  opens_still : (x y : Option C) (n : ℕ) (field : Option (List ℕ)) (text : List ℕ) → SameBut c x y → OpensIn c x n field text →
      OpensIn c y n field text
  opens_still None y n field text same h = absurd h
  opens_still (Some m) None n field text same h = absurd same
  opens_still (Some m) (Some m2) n None text same h = absurd h
  opens_still (Some m) (Some m2) n (Some blob) text same h =
      law.opens_counted m2 (c.counts m) n blob text (subst (λ (x : C). c.opens x n blob text) (recounted_as c law m2 m (sym same)) h)

  -- each later turn is refused
  final_stays : (old mid : ServerView C P) (d : TsRequest) (out : Outcome) → ServerTurn c old d out mid → old.state ≡ Final →
      mid.state ≡ Final
  final_stays old mid d (outcome.Reply reply) turn final =
      absurd (subst (λ (s : CredSspState). ShowsStateBack (server_shown (server_frame c old mid))
      (server_turn c d (outcome.Reply reply) mid) s reply) final turn.turn.shown.reply)
  final_stays old mid d (outcome.Final reply) turn final = absurd turn.turn.shown.reply
  final_stays old mid d outcome.Finished turn final = let s = turn.turn.shown.reply.0 in absurd (cc (s, final))
  final_stays old mid d (outcome.Refused kind reply) turn final = turn.moves.state ∙ final

  -- so what the context opens stays the same
  opens_on : (first now : ServerView C P) (later : List Turn) (n : ℕ) (field : Option (List ℕ)) (text : List ℕ) →
      ServerHistory c p first later now → first.state ≡ Final → OpensIn c first.context n field text →
      (now.state ≡ Final) × OpensIn c now.context n field text
  opens_on first now [] n field text h final opens =
      subst (λ (v : ServerView C P). (v.state ≡ Final) × OpensIn c v.context n field text) (sym h) (final, opens)
  opens_on first now (t ∷ later) n field text h final opens =
      let old = h.0 in
      let made = h.2 in
      let so_far = opens_on first old later n field text h.1 final opens in
      let turn = server_turn_of c law p old made.mid t.delivered t.outcome made.makes in
      let same : SameBut c old.context made.mid.context =
      subst (λ (s : CredSspState). OnceNegotiated s (SameBut c old.context made.mid.context)) so_far.0 turn.moves.bare in
      subst (λ (v : ServerView C P). (v.state ≡ Final) × OpensIn c v.context n field text) (sym made.rest) (
        final_stays old made.mid t.delivered t.outcome turn so_far.0,
        opens_still old.context made.mid.context n field text same so_far.1,
      )

  identity_text : (context : Option C) (field : Option (List ℕ)) (identity : AuthIdentity) → HoldsIdentity c context field identity →
      (text : List ℕ) × OpensIn c context (unsealings_in c context - 1) field text × (delegated_identity text ≡ Ok identity)
  identity_text None field identity h = absurd h
  identity_text (Some m) None identity h = absurd h
  identity_text (Some m) (Some blob) identity (opens_identity text opens is) = (text, opens, is)

  -- the text of the identity that a server gave, opened by the context as it is now
  pub given_text : (first now : ServerView C P) (identity : AuthIdentity) (turns : List Turn) (gave : GaveIn c p first identity turns now) →
      IsFreshServer first → NoneRefused gave.before → gave.turn.acts.checked ≡ false → gave.turn.acts.opened ≡ true →
      (text : List ℕ) × OpensIn c now.context (opened_in gave.before) gave.turn.delivered.auth_info text
      × (delegated_identity text ≡ Ok identity)
  given_text first now identity turns gave fresh un unchecked opened =
      let t = gave.turn in
      let follows = server_history_follows c law p first gave.server (t ∷ gave.before) fresh
      (finished_unrefused t.outcome gave.finished, un) gave.gave.0 in
      let final : gave.server.state ≡ Final = follows.state ∙ (rw (finished_is t.outcome gave.finished) refl) in
      let count : unsealings_in c gave.server.context ≡ opened_in gave.before + 1 =
      follows.ran.opened ∙ (rw (unchecked, opened) refl) in
      let number : unsealings_in c gave.server.context - 1 ≡ opened_in gave.before = rw count (omega arith) in
      let held = identity_text gave.server.context t.delivered.auth_info identity gave.gave.1 in
      let on = opens_on gave.server now gave.later (opened_in gave.before) t.delivered.auth_info held.0 gave.since final
      (subst (λ (n : ℕ). OpensIn c gave.server.context n t.delivered.auth_info held.0) number held.1) in
      (held.0, on.1, held.2)
