-- Whether a MIC was made or verified, and which calls leave a mechanism's counts unchanged.
use Rattle.std.proofs.Common.{◌≡◌, ◌≤◌, ◌||◌, ℕ, Bool, true, false, List, Option}
use Rattle.std.proofs.Common.{Result, refl, sym, ◌∙◌, ap, arith, nat_lt}
use Rattle.std.proofs.lemmas.Bool.{false≢true, ltb-false}
use Rattle.sspi_types.specs.declared.credential_use.CredentialUse.{CredentialUse}
use Rattle.sspi_types.specs.declared.error.Error.{Error}
use Rattle.sspi_names.specs.declared.credentials.Credentials.{Credentials}
use Rattle.sspi_names.specs.declared.credentials.CredentialsBuffers.{CredentialsBuffers}
use Rattle.sspi_mech.specs.declared.step.Answer.{Answer}
use Rattle.sspi_mech.specs.declared.step.Reply.{Reply}
use Rattle.sspi_mech.specs.declared.step.Step.{Step}
use Rattle.sspi_mech.specs.Calls.{StepArgs, AcceptArgs, Counts, no_counts}
use Rattle.sspi_mech.specs.Laws.{IsMechanism}
use Rattle.sspi_mech.specs.Meaning.{Meaning}
use Rattle.sspi_mech.specs.Settings.{Setting}
use Rattle.sspi_negotiate.specs.declared.protocol.NegotiatedProtocol.{NegotiatedProtocol}
use Rattle.sspi_negotiate.specs.declared.protocol.NegotiatedProtocol.TheVariants as hands
use Rattle.sspi_negotiate.specs.Hand.{hand}
use Rattle.sspi_negotiate.specs.Verified.{HasNoMic}
use Rattle.sspi_negotiate.proofs.HandLaws.{hand_lawful}
use Rattle.sspi_credssp.specs.Acts.{silent}

-- a MIC was made or verified
abbrev pub is_marked : Counts → Bool
is_marked counts = nat_lt 0 counts.signings || nat_lt 0 counts.verifications

either_off : (a b : Bool) → a || b ≡ false → (a ≡ false) × (b ≡ false)
either_off false b off = (refl, off)
either_off true b off = absurd (cc (off))

none : (count : ℕ) → nat_lt 0 count ≡ false → count ≡ 0
none count off = let most : count ≤ 0 = ltb-false 0 count off in omega (arith, most)

has_none : (counts : Counts) → is_marked counts ≡ false → HasNoMic counts
has_none counts off = let both = either_off (nat_lt 0 counts.signings) (nat_lt 0 counts.verifications) off in
    record { signings = none counts.signings both.0; verifications = none counts.verifications both.1 }

none_marked : (counts : Counts) → HasNoMic counts → is_marked counts ≡ false
none_marked counts h =
    ap (λ (x : ℕ). nat_lt 0 x || nat_lt 0 counts.verifications) h.signings ∙ ap (λ (x : ℕ). nat_lt 0 0 || nat_lt 0 x) h.verifications

marks_by : (a b : Counts) (marked : Bool) → is_marked a ≡ marked → (HasNoMic a → HasNoMic b) → is_marked b ≡ true → is_marked a ≡ true
marks_by a b true is stays on = is
marks_by a b false is stays on = absurd (false≢true (sym (none_marked b (stays (has_none a is))) ∙ on))

-- if no MIC is added, one that is counted was counted before
pub marks_before : (a b : Counts) → (HasNoMic a → HasNoMic b) → is_marked b ≡ true → is_marked a ≡ true
marks_before a b stays on = marks_by a b (is_marked a) refl stays on

pub marked_same : (a b : Counts) → silent a ≡ silent b → is_marked a ≡ is_marked b
marked_same a b same = ap is_marked same

-- no call but those that protect and check messages changes a count
pub record KeepsCounts {S M : Type 0} (c : Meaning S M) : Type 0 where
  pub made : (s : S) (m : M) → c.made s m → c.counts m ≡ no_counts
  pub acquired : (m m2 : M) (u : CredentialUse) (d : Option Credentials) (b : Option CredentialsBuffers) →
      c.acquires m u d b m2 → c.counts m2 ≡ c.counts m
  pub stepped : (m m2 : M) (a : StepArgs) (r : Answer) → c.steps m a r m2 → c.counts m2 ≡ c.counts m
  pub resumed : (m m2 : M) (b : Reply) (r : Answer) → c.resumes m b r m2 → c.counts m2 ≡ c.counts m
  pub accepted : (m m2 : M) (a : AcceptArgs) (r : Result Step Error) → c.accepts m a r m2 → c.counts m2 ≡ c.counts m
  pub identified : (m m2 : M) (ids : List Credentials) → c.identifies m ids m2 → c.counts m2 ≡ c.counts m
  pub counted : (m : M) (i : Counts) → c.counts (c.counted m i) ≡ i

module _ {N K : Type 0} (r q : ℕ) (n : Meaning Setting N) (k : Meaning Setting K) (ln : IsMechanism r n) (lk : IsMechanism q k) where
  acquired_in_hand : (m m2 : NegotiatedProtocol N K) (u : CredentialUse) (d : Option Credentials) (b : Option CredentialsBuffers) →
      (hand n k).acquires m u d b m2 → (hand n k).counts m2 ≡ (hand n k).counts m
  acquired_in_hand (hands.Ntlm m) (hands.Ntlm m2) u d b h = ln.acquire_counts m m2 u d b h
  acquired_in_hand (hands.Ntlm m) (hands.Kerberos m2) u d b h = absurd h
  acquired_in_hand (hands.Kerberos m) (hands.Ntlm m2) u d b h = absurd h
  acquired_in_hand (hands.Kerberos m) (hands.Kerberos m2) u d b h = lk.acquire_counts m m2 u d b h

  stepped_in_hand : (m m2 : NegotiatedProtocol N K) (a : StepArgs) (x : Answer) → (hand n k).steps m a x m2 →
      (hand n k).counts m2 ≡ (hand n k).counts m
  stepped_in_hand (hands.Ntlm m) (hands.Ntlm m2) a x h = ln.step_counts m m2 a x h
  stepped_in_hand (hands.Ntlm m) (hands.Kerberos m2) a x h = absurd h
  stepped_in_hand (hands.Kerberos m) (hands.Ntlm m2) a x h = absurd h
  stepped_in_hand (hands.Kerberos m) (hands.Kerberos m2) a x h = lk.step_counts m m2 a x h

  resumed_in_hand : (m m2 : NegotiatedProtocol N K) (b : Reply) (x : Answer) → (hand n k).resumes m b x m2 →
      (hand n k).counts m2 ≡ (hand n k).counts m
  resumed_in_hand (hands.Ntlm m) (hands.Ntlm m2) b x h = ln.resume_counts m m2 b x h
  resumed_in_hand (hands.Ntlm m) (hands.Kerberos m2) b x h = absurd h
  resumed_in_hand (hands.Kerberos m) (hands.Ntlm m2) b x h = absurd h
  resumed_in_hand (hands.Kerberos m) (hands.Kerberos m2) b x h = lk.resume_counts m m2 b x h

  accepted_in_hand : (m m2 : NegotiatedProtocol N K) (a : AcceptArgs) (x : Result Step Error) → (hand n k).accepts m a x m2 →
      (hand n k).counts m2 ≡ (hand n k).counts m
  accepted_in_hand (hands.Ntlm m) (hands.Ntlm m2) a x h = ln.accept_counts m m2 a x h
  accepted_in_hand (hands.Ntlm m) (hands.Kerberos m2) a x h = absurd h
  accepted_in_hand (hands.Kerberos m) (hands.Ntlm m2) a x h = absurd h
  accepted_in_hand (hands.Kerberos m) (hands.Kerberos m2) a x h = lk.accept_counts m m2 a x h

  pub hand_keeps : KeepsCounts (hand n k)
  hand_keeps = let laws = hand_lawful r q n k ln lk in record {
    made = laws.made_fresh;
    acquired = acquired_in_hand;
    stepped = stepped_in_hand;
    resumed = resumed_in_hand;
    accepted = accepted_in_hand;
    identified = laws.identify_counts;
    counted = laws.counts_counted;
  }
