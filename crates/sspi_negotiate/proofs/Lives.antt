-- A server's later step makes no other mechanism.
use Rattle.std.proofs.Common.{◌≡◌, ◌≢◌, ◌⊎◌, ◌==◌, ℕ, Bool, true, false, cond, List, Option, None, Some, Result, Ok, Err}
use Rattle.std.proofs.Common.{length, map, refl, ◌∙◌, inl, inr}
use Rattle.sspi_types.specs.declared.error.Error.{Error}
use Rattle.sspi_types.specs.declared.security_status.SecurityStatus.{SecurityStatus}
use Rattle.sspi_names.specs.Name.{inner_of}
use Rattle.sspi_names.specs.declared.credentials.Credentials.{Credentials}
use Rattle.sspi_names.specs.declared.credentials.Credentials.TheVariants.{AuthIdentity as Credential}
use Rattle.sspi_mech.specs.declared.step.Answer.{Answer}
use Rattle.sspi_mech.specs.declared.step.Step.{Step}
use Rattle.sspi_mech.specs.Calls.{AcceptArgs, one_signing, one_verification}
use Rattle.sspi_mech.specs.Meaning.{Meaning}
use Rattle.sspi_tokens.specs.declared.neg_result.NegResult.{NegResult}
use Rattle.sspi_tokens.specs.declared.neg_token_targ.NegTokenTarg.{NegTokenTarg}
use Rattle.sspi_tokens.specs.Reading.{targ_of}
use Rattle.sspi_tokens.specs.Spelling.{spelled_list, spelled_targ}
use Rattle.sspi_negotiate.specs.declared.state.NegotiateState.{NegotiateState}
use Rattle.sspi_negotiate.specs.declared.state.NegotiateState.TheVariants as states
use Rattle.sspi_negotiate.specs.declared.state.Role.{Role}
use Rattle.sspi_negotiate.specs.declared.state.Role.TheVariants.{Client, Server}
use Rattle.sspi_negotiate.specs.Hand.{Origin}
use Rattle.sspi_negotiate.specs.Known.{named}
use Rattle.sspi_negotiate.specs.Lives.{LivesOn}
use Rattle.sspi_negotiate.specs.Plan.{Plan}
use Rattle.sspi_negotiate.specs.Reaches.{Accepted, Moved, Reaches}
use Rattle.sspi_negotiate.specs.Rows.{is_over, is_complete, is_guest_text, or_empty, written, writes, signs_text, verifies_text, checks}
use Rattle.sspi_negotiate.specs.Rows.{completes, answers_signed, carries_on}
use Rattle.sspi_negotiate.specs.Server.{without_mic, settles, accepted, at_progress, last_mic, at_verify_mic, server_at, spnego_server}
use Rattle.sspi_negotiate.specs.Values.{Values}
use Rattle.sspi_negotiate.specs.Verified.{Leaves, as_it_was, having_signed}

module _ {M : Type 0} (c : Meaning Origin M) where
  either_moved : {P : Type 0} (b : Bool) (p q : Plan) (m m2 : M) (r : Answer) → (Moved c p m r m2 → P) → (Moved c q m r m2 → P) →
      Moved c (cond b p q) m r m2 → P
  either_moved true p q m m2 r f g h = f h
  either_moved false p q m m2 r f g h = g h

  still_or : {X : Type 0} (m1 m2 : M) → (X → ⊥) → (m2 ≡ m1) ⊎ X → m2 ≡ m1
  still_or m1 m2 never (inl same) = same
  still_or m1 m2 never (inr h) = absurd (never h)

  leaves_or : {X : Type 0} (m1 m2 : M) → (X → Leaves c m1 m2) → (m2 ≡ m1) ⊎ X → Leaves c m1 m2
  leaves_or m1 m2 on (inl same) = as_it_was same
  leaves_or m1 m2 on (inr h) = on h

  written_still : (o : Option (List ℕ)) (v v2 : Values) (status : SecurityStatus) (m m2 : M) (r : Answer) →
      Moved c (written o v v2 status) m r m2 → ⊥
  written_still None v v2 status m m2 r h = h
  written_still (Some text) v v2 status m m2 r h = h

  writes_still : (token : NegTokenTarg) (v v2 : Values) (status : SecurityStatus) (m m2 : M) (r : Answer) →
      Moved c (writes token v v2 status) m r m2 → ⊥
  unfolding writes
  writes_still token v v2 status m m2 r h = written_still (spelled_targ token) v v2 status m m2 r h

  completes_still : (v : Values) (token : List ℕ) (need : Bool) (m m2 : M) (r : Answer) → Moved c (completes v token need) m r m2 → ⊥
  unfolding completes
  completes_still v token need m m2 r h = writes_still _ v _ _ m m2 r h

  carries_on_still : (v : Values) (token : List ℕ) (status : SecurityStatus) (m m2 : M) (r : Answer) →
      Moved c (carries_on v token status) m r m2 → ⊥
  unfolding carries_on
  carries_on_still v token status m m2 r h = writes_still _ v v status m m2 r h

  -- a step that signs does only that
  signs_once : (o : Option (List ℕ)) (v : Values) (rest : List ℕ → Plan) (m m2 : M) (r : Answer) →
      ((mic : List ℕ) (m1 : M) → Moved c (rest mic) m1 r m2 → ⊥) →
      Moved c (signs_text o v rest) m r m2 → m2 ≡ c.counted m (one_signing (c.counts m))
  signs_once None v rest m m2 r still h = absurd h
  signs_once (Some text) v rest m m2 r still h = still_or h.0 m2 (still h.1 h.0) h.5 ∙ h.3

  answers_once : (result : NegResult) (state : NegotiateState) (status : SecurityStatus) (v : Values) (token : List ℕ) (m m2 : M)
      (r : Answer) → Moved c (answers_signed result state status v token) m r m2 → Leaves c m m2
  unfolding answers_signed
  answers_once result state status v token m m2 r h =
      having_signed (signs_once (spelled_list v.list) v _ m m2 r (λ mic m1. writes_still _ v _ status m1 m2 r) h)

  -- what comes after the mechanism's step
  record Settled (m m2 : M) : Type 0 where
    told : M
    verified : M
    identifies : (told ≡ m) ⊎ ((identities : List Credentials) × c.identifies m identities told)
    verifies : (verified ≡ told) ⊎ (verified ≡ c.counted told (one_verification (c.counts told)))
    signs : Leaves c verified m2

  left : (m m2 : M) → Leaves c m m2 → Settled m m2
  left m m2 signs = record { told = m; verified = m; identifies = inl refl; verifies = inl refl; signs = signs }

  identified : (identities : List Credentials) (mic : List ℕ) (o : Option (List ℕ)) (v : Values) (rest : Plan) (m m1 m2 : M) (r : Answer) →
      c.identifies m identities m1 → ((m3 : M) → Moved c rest m3 r m2 → Leaves c m3 m2) →
      (m2 ≡ m1) ⊎ Moved c (verifies_text mic o v rest) m1 r m2 → Settled m m2
  identified identities mic o v rest m m1 m2 r known on (inl same) = record {
    told = m1;
    verified = m1;
    identifies = inr (identities, known);
    verifies = inl refl;
    signs = as_it_was same;
  }
  identified identities mic None v rest m m1 m2 r known on (inr h) = absurd h
  identified identities mic (Some text) v rest m m1 m2 r known on (inr h) = record {
    told = m1;
    verified = h.0;
    identifies = inr (identities, known);
    verifies = inr h.2;
    signs = leaves_or h.0 m2 (on h.0) h.4;
  }

  checked : (mic : List ℕ) (v : Values) (rest : Plan) (m m2 : M) (r : Answer) →
      ((m3 : M) → Moved c rest m3 r m2 → Leaves c m3 m2) → Moved c (checks mic v rest) m r m2 → Settled m m2
  checked mic v rest m m2 r on h = either_moved (length (map Credential (named h.0 v.known)) == 0) _ _ m m2 r (λ never. absurd never)
      (λ x. identified _ mic (spelled_list v.list) v rest m x.0 m2 r x.1 on x.2) h.2

  unchecked : (complete : Bool) (v : Values) (token : List ℕ) (m m2 : M) (r : Answer) → Moved c (without_mic complete v token) m r m2 →
      Settled m m2
  unfolding without_mic
  unchecked true v token m m2 r h = either_moved (is_guest_text (inner_of h.0)) _ _ m m2 r
      (λ x. absurd (completes_still v token false m m2 r x)) (λ never. absurd never) h.2
  unchecked false v token m m2 r h = left m m2 (answers_once _ states.VerifyMic _ v token m m2 r h)

  settled : (need : Bool) (mic : Option (List ℕ)) (complete : Bool) (v : Values) (token : List ℕ) (m m2 : M) (r : Answer) →
      Moved c (settles need mic complete v token) m r m2 → Settled m m2
  settled false mic complete v token m m2 r h = absurd (completes_still v token v.need m m2 r h)
  settled true (Some mic) complete v token m m2 r h = checked mic v _ m m2 r (λ m3. answers_once _ states.Ok _ v token m3 m2 r) h
  settled true None complete v token m m2 r h = unchecked complete v token m m2 r h

  responded : (token : NegTokenTarg) (v : Values) (step : Step) (m m2 : M) (r : Answer) → Moved c (accepted token v step) m r m2 →
      Settled m m2
  responded token v step m m2 r h = either_moved (is_over step.status) _ _ m m2 r
      (settled v.need token.mech_list_mic (is_complete token.neg_result) v step.output m m2 r)
      (λ x. absurd (carries_on_still v step.output step.status m m2 r x)) h

  module _ (args : AcceptArgs) (m m2 : M) (r : Answer) where
    unstepped : Settled m m2 → LivesOn c args m m2
    unstepped s = record {
      stepped = m;
      told = s.told;
      verified = s.verified;
      accepts = inl refl;
      identifies = s.identifies;
      verifies = s.verifies;
      signs = s.signs;
    }

    stepped : (token : List ℕ) (x : Result Step Error) (m1 : M) → c.accepts m (record args { input = token }) x m1 → Settled m1 m2 →
        LivesOn c args m m2
    stepped token x m1 h s = record {
      stepped = m1;
      told = s.told;
      verified = s.verified;
      accepts = inr (token, x, h);
      identifies = s.identifies;
      verifies = s.verifies;
      signs = s.signs;
    }

    took : (token : NegTokenTarg) (v : Values) (x : Result Step Error) (m1 : M) →
        c.accepts m (record args { input = or_empty token.response_token }) x m1 →
        Accepted x (λ step. Moved c (accepted token v step) m1 r m2) r m1 m2 → LivesOn c args m m2
    took token v (Ok step) m1 h (inl same) = stepped _ (Ok step) m1 h (left m1 m2 (as_it_was same))
    took token v (Ok step) m1 h (inr moved) = stepped _ (Ok step) m1 h (responded token v step m1 m2 r moved)
    took token v (Err error) m1 h same = stepped _ (Err error) m1 h (left m1 m2 (as_it_was same.0))

    in_progress : (o : Option NegTokenTarg) (v : Values) → Moved c (at_progress o v args) m r m2 → LivesOn c args m m2
    in_progress None v h = absurd h
    in_progress (Some token) v h = took token v h.1 h.0 h.2 h.3

    last : (mic : Option (List ℕ)) (v : Values) → Moved c (last_mic mic v) m r m2 → LivesOn c args m m2
    last None v h = absurd h
    last (Some mic) v h = unstepped (checked mic v _ m m2 r (λ m3 never. absurd never) h)

    at_last : (o : Option NegTokenTarg) (v : Values) → Moved c (at_verify_mic o v) m r m2 → LivesOn c args m m2
    at_last None v h = absurd h
    at_last (Some token) v h = last token.mech_list_mic v h

    lives_at : (role : Role) (state : NegotiateState) (v : Values) → state ≢ states.Initial → Moved c (server_at role state v args) m r m2 →
        LivesOn c args m m2
    lives_at Client state v late h = absurd h
    lives_at Server states.Initial v late h = absurd (late refl)
    lives_at Server states.InProgress v late h = in_progress (targ_of args.input) v h
    lives_at Server states.VerifyMic v late h = at_last (targ_of args.input) v h
    lives_at Server states.Ok v late h = absurd h

    pub lives_on : (v : Values) → v.state ≢ states.Initial → Reaches c (spnego_server v args) m r m2 → LivesOn c args m m2
    lives_on v late (inl same) = unstepped (left m m2 (as_it_was same))
    lives_on v late (inr moved) = lives_at v.role v.state v late moved
