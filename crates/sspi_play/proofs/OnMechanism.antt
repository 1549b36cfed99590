-- Agreement on the mechanism: a MIC that one end verified was made by the other, over the list that
-- both keep; so the client had offered that list, and the server had read it and picked from it.
use Rattle.std.proofs.Common.{◌≡◌, ◌≤◌, ◌||◌, ℕ, Bool, true, false, List, Option, None, Some, Result, Err, refl, sym, ◌∙◌, ap, subst}
use Rattle.std.proofs.Common.{arith, nat_lt}
use Rattle.std.proofs.lemmas.Bool.{false≢true, lt-ltb}
use Rattle.sspi_mech.specs.Calls.{Counts}
use Rattle.sspi_mech.specs.Laws.{IsMechanism}
use Rattle.sspi_mech.specs.Meaning.{Meaning}
use Rattle.sspi_mech.specs.Settings.{Setting}
use Rattle.sspi_negotiate.specs.Hand.{hand_of}
use Rattle.sspi_credssp.specs.declared.context.SspiContext.{SspiContext}
use Rattle.sspi_credssp.specs.declared.context.SspiContext.TheVariants as contexts
use Rattle.sspi_credssp.specs.declared.mode.ServerMode.{ServerMode}
use Rattle.sspi_credssp.specs.declared.turn.Turn.{Turn}
use Rattle.sspi_credssp.specs.Ends.{IsFreshClient, IsFreshServer}
use Rattle.sspi_credssp.specs.Context.{either}
use Rattle.sspi_credssp.specs.Proxy.{ProxyMeaning}
use Rattle.sspi_credssp.proofs.ContextLaws.{lawful}
use Rattle.sspi_delegate.specs.declared.answer.DelegateError.{DelegateError}
use Rattle.sspi_delegate.specs.declared.answer.DelegateError.TheVariants as errors
use Rattle.sspi_delegate.specs.Chain.{KdcCalls, client_stage, server_stage}
use Rattle.sspi_delegate.specs.Turns.{client_end, server_end}
use Rattle.sspi_delegate.specs.Turns.{client_turns, server_turns}
use Rattle.sspi_delegate.proofs.Chained.{client_past_chained}
use Rattle.sspi_play.specs.declared.played.Delivery.{Delivery}
use Rattle.sspi_play.specs.declared.played.Played.{Played}
use Rattle.sspi_play.specs.Faithful.{signings_in, verifications_in}
use Rattle.sspi_play.specs.Kept.{kept_list}
use Rattle.sspi_play.specs.Negotiated.{HasOffered, HasRead, IsPickOf, NegotiatesIfFaithful, VerifiesFirst}
use Rattle.sspi_play.specs.Played.{Both, Accounts, IsPlay}
use Rattle.sspi_play.specs.Plays.{IsNext}
use Rattle.sspi_play.proofs.ClientOffers.{ShowsOffered, left_offers}
use Rattle.sspi_play.proofs.ClientVerifies.{Claims, left_claims, verified_in, some_proved, sealed_proved}
use Rattle.sspi_play.proofs.Marks.{is_marked}
use Rattle.sspi_play.proofs.Runs.{played_left}
use Rattle.sspi_play.proofs.ServerChains.{chain_shows}
use Rattle.sspi_play.proofs.ServerPicks.{Shows}
use Rattle.sspi_play.proofs.ServerOver.{over_once_proved, over_once_opened}
use Rattle.sspi_play.proofs.ServerVerifies.{left_claims as server_left_claims}

first_holds : (a b : Bool) → a ≡ true → a || b ≡ true
first_holds a b h = ap (λ (x : Bool). x || b) h

second_holds : (a b : Bool) → b ≡ true → a || b ≡ true
second_holds true b h = refl
second_holds false b h = h

signed_marks : (counts : Counts) → 1 ≤ counts.signings → is_marked counts ≡ true
signed_marks counts h = first_holds (nat_lt 0 counts.signings) (nat_lt 0 counts.verifications) (lt-ltb 0 counts.signings h)

verified_marks : (counts : Counts) → 1 ≤ counts.verifications → is_marked counts ≡ true
verified_marks counts h = second_holds (nat_lt 0 counts.signings) (nat_lt 0 counts.verifications) (lt-ltb 0 counts.verifications h)

unmarked : (counts : Counts) → is_marked counts ≡ false → is_marked counts ≡ true → ⊥
unmarked counts off on = false≢true (sym off ∙ on)

module _ {N K : Type 0} (r q : ℕ) (n : Meaning Setting N) (k : Meaning Setting K) (ln : IsMechanism r n) (lk : IsMechanism q k) where
  -- the context has made or verified a MIC
  abbrev IsMarked : Option (SspiContext N K) → Type 0
  IsMarked None = ⊥
  IsMarked (Some m) = is_marked ((either r n k).counts m) ≡ true

  signed_is : (context : Option (SspiContext N K)) → 1 ≤ signings_in (either r n k) context → IsMarked context
  signed_is None h = let never : ⊥ = omega (arith, h) in never
  signed_is (Some m) h = signed_marks ((either r n k).counts m) h

  verified_is : (context : Option (SspiContext N K)) → 1 ≤ verifications_in (either r n k) context → IsMarked context
  verified_is None h = let never : ⊥ = omega (arith, h) in never
  verified_is (Some m) h = verified_marks ((either r n k).counts m) h

  offered_list : (turns : List Turn) (context : Option (SspiContext N K)) → IsMarked context →
      ShowsOffered n k turns context → HasOffered turns (kept_list context)
  offered_list turns None marked h = absurd marked
  offered_list turns (Some (contexts.Negotiate s)) marked h = h.marked marked
  offered_list turns (Some (contexts.Ntlm m)) marked h = absurd (unmarked (n.counts m) h marked)
  offered_list turns (Some (contexts.Kerberos m)) marked h = absurd (unmarked (k.counts m) h marked)

  read_list : (mode : ServerMode) (turns : List Turn) (context : Option (SspiContext N K)) → IsMarked context →
      Shows r q n k ln lk mode turns context → HasRead turns (kept_list context)
  read_list mode turns None marked h = absurd marked
  read_list mode turns (Some (contexts.Negotiate s)) marked h = (h.picked marked).read
  read_list mode turns (Some (contexts.Ntlm m)) marked h = absurd (unmarked (n.counts m) h marked)
  read_list mode turns (Some (contexts.Kerberos m)) marked h = absurd (unmarked (k.counts m) h marked)

  picked_mechanism : (mode : ServerMode) (turns : List Turn) (context : Option (SspiContext N K)) → IsMarked context →
      Shows r q n k ln lk mode turns context → IsPickOf context mode (kept_list context)
  picked_mechanism mode turns None marked h = absurd marked
  picked_mechanism mode turns (Some (contexts.Negotiate s)) marked h = record {
    config = h.config;
    mode_is = h.mode_is;
    protocol = hand_of s.mech;
    held = refl;
    picked = (h.picked marked).picked;
  }
  picked_mechanism mode turns (Some (contexts.Ntlm m)) marked h = absurd (unmarked (n.counts m) h marked)
  picked_mechanism mode turns (Some (contexts.Kerberos m)) marked h = absurd (unmarked (k.counts m) h marked)

  module _ {P D : Type 0} (p : ProxyMeaning P) (kdcs : KdcCalls D) where
    pub negotiates_if_faithful : (schedule : List Delivery) (old new : Both (SspiContext N K) P D)
        (result : Result Played DelegateError) → IsFreshClient old.client → IsFreshServer old.server →
        IsPlay (either r n k) p kdcs schedule old result new → Accounts (either r n k) p kdcs schedule old result new →
        NegotiatesIfFaithful r n k (client_end new.client) (server_end new.server) old.server.settings.mode new.turns
    negotiates_if_faithful schedule old new result client_fresh server_fresh play accounts =
        let law = lawful r q n k ln lk in
        let due = IsNext schedule new.turns in
        let offers : ShowsOffered n k (client_turns new.turns) new.client.context =
        left_offers r q n k ln lk kdcs old.client due old.kdc (client_turns new.turns) (client_stage new.client new.kdc)
        client_fresh.context play.client_ran.others
        (client_past_chained (either r n k) kdcs old.client law client_fresh due new.client old.kdc new.kdc (client_turns new.turns)
        (Err errors.InsufficientMemory) play.client_ran.others
        (played_left (either r n k) kdcs due result old.client new.client old.kdc new.kdc (client_turns new.turns)
        accounts.client_turns_are_its_calls)) in
        let shows : Shows r q n k ln lk old.server.settings.mode (server_turns new.turns) new.server.context =
        chain_shows r q n k ln lk p old.server (server_turns new.turns) (server_stage new.server) server_fresh.context
        play.server_ran.others
        play.the_server_has_the_context_of_its_chain in
        record {
          a_server_that_verified = λ faithful some. (
            subst (λ (l : List (List ℕ)). IsPickOf new.server.context old.server.settings.mode l) (faithful.lists some)
                (picked_mechanism old.server.settings.mode (server_turns new.turns) new.server.context
                (verified_is new.server.context some) shows),
            offered_list (client_turns new.turns) new.client.context (signed_is new.client.context (faithful.signed some)) offers,
          );
          a_client_that_verified = λ faithful some.
              subst (λ (l : List (List ℕ)). HasRead (server_turns new.turns) l) (sym (faithful.lists some))
              (read_list old.server.settings.mode (server_turns new.turns) new.server.context
              (signed_is new.server.context (faithful.signed some)) shows);
        }

    pub verifies_first : (schedule : List Delivery) (old new : Both (SspiContext N K) P D) (result : Result Played DelegateError) →
        IsFreshClient old.client → IsFreshServer old.server → IsPlay (either r n k) p kdcs schedule old result new →
        Accounts (either r n k) p kdcs schedule old result new →
        VerifiesFirst r n k p new.client old.server (server_end new.server) new.turns
    verifies_first schedule old new result client_fresh server_fresh play accounts =
        let law = lawful r q n k ln lk in
        let due = IsNext schedule new.turns in
        let claims : Claims r q n k ln lk kdcs old.client (client_end new.client) (client_turns new.turns)
        (client_stage new.client new.kdc) =
        left_claims r q n k ln lk kdcs old.client (client_end new.client) due old.kdc (client_turns new.turns)
        (client_stage new.client new.kdc) client_fresh.context play.client_ran.others play.client_ran.each
        (client_past_chained (either r n k) kdcs old.client law client_fresh due new.client old.kdc new.kdc (client_turns new.turns)
        (Err errors.InsufficientMemory) play.client_ran.others
        (played_left (either r n k) kdcs due result old.client new.client old.kdc new.kdc (client_turns new.turns)
        accounts.client_turns_are_its_calls)) in
        let server_claims = server_left_claims r q n k ln lk p old.server (server_end new.server)
        (server_turns new.turns) (server_stage new.server) server_fresh.context play.server_ran.others play.server_ran.each
        play.the_server_has_the_context_of_its_chain in
        record {
          a_client_that_proved = λ at proved negotiates known. verified_in r q n k ln lk new.client.context negotiates
              (claims (some_proved (client_turns new.turns) at proved) known);
          a_client_that_sealed = λ at sealed negotiates known. verified_in r q n k ln lk new.client.context negotiates
              (claims (sealed_proved (either r n k) (client_end new.client) (client_turns new.turns) play.client_ran.each at sealed) known);
          a_server_that_proved = λ at proved unrefused. server_claims (over_once_proved (either r n k) (server_end new.server)
              (server_turns new.turns) play.server_ran.each at proved unrefused);
          a_server_that_opened = λ at opened. server_claims (over_once_opened (either r n k) (server_end new.server)
              (server_turns new.turns) play.server_ran.each at opened);
        }
