-- A context's calls besides its steps keep a fact of its negotiation; without one, it has no MIC.
use Rattle.std.proofs.Common.{◌≡◌, ℕ, false, List, Option, None, Some, Result, refl, sym, ◌∙◌, ap, subst}
use Rattle.sspi_types.specs.declared.error.Error.{Error}
use Rattle.sspi_types.specs.declared.credential_use.CredentialUse.{CredentialUse}
use Rattle.sspi_names.specs.declared.credentials.Credentials.{Credentials}
use Rattle.sspi_names.specs.declared.credentials.CredentialsBuffers.{CredentialsBuffers}
use Rattle.sspi_mech.specs.declared.step.Answer.{Answer}
use Rattle.sspi_mech.specs.declared.step.Reply.{Reply}
use Rattle.sspi_mech.specs.declared.step.Step.{Step}
use Rattle.sspi_mech.specs.Calls.{StepArgs, AcceptArgs, Counts}
use Rattle.sspi_mech.specs.Context.{IsContext}
use Rattle.sspi_mech.specs.Laws.{IsMechanism}
use Rattle.sspi_mech.specs.Meaning.{Meaning}
use Rattle.sspi_mech.specs.Settings.{Setting}
use Rattle.sspi_negotiate.specs.declared.protocol.NegotiatedProtocol.{NegotiatedProtocol}
use Rattle.sspi_negotiate.specs.declared.protocol.NegotiatedProtocol.TheVariants as hands
use Rattle.sspi_negotiate.specs.Hand.{hand, hand_of}
use Rattle.sspi_negotiate.specs.Negotiate.{negotiate}
use Rattle.sspi_negotiate.specs.Values.{Negotiation}
use Rattle.sspi_credssp.specs.declared.context.SspiContext.{SspiContext}
use Rattle.sspi_credssp.specs.declared.context.SspiContext.TheVariants as contexts
use Rattle.sspi_credssp.specs.Context.{either}
use Rattle.sspi_credssp.specs.Acts.{silent, cleared, SameBut}
use Rattle.sspi_credssp.proofs.ContextLaws.{lawful}
use Rattle.sspi_play.proofs.Marks.{is_marked, marked_same, hand_keeps}

module _ {N K : Type 0} (n : Meaning Setting N) (k : Meaning Setting K) where
  abbrev pub HoldsOf : (Negotiation (NegotiatedProtocol N K) → Type 0) → Option (SspiContext N K) → Type 0
  HoldsOf Q None = Unit {0}
  HoldsOf Q (Some (contexts.Negotiate s)) = Q s
  HoldsOf Q (Some (contexts.Ntlm m)) = is_marked (n.counts m) ≡ false
  HoldsOf Q (Some (contexts.Kerberos m)) = is_marked (k.counts m) ≡ false

  pub holds_map : (Q R : Negotiation (NegotiatedProtocol N K) → Type 0) → ((s : Negotiation (NegotiatedProtocol N K)) → Q s → R s) →
      (context : Option (SspiContext N K)) → HoldsOf Q context → HoldsOf R context
  holds_map Q R map None h = h
  holds_map Q R map (Some (contexts.Negotiate s)) h = map s h
  holds_map Q R map (Some (contexts.Ntlm m)) h = h
  holds_map Q R map (Some (contexts.Kerberos m)) h = h

  -- of the mechanism, the fact depends only on its name and on whether it made or verified a MIC
  abbrev pub IsOfMics : (Negotiation (NegotiatedProtocol N K) → Type 0) → Type 0
  IsOfMics Q = (s : Negotiation (NegotiatedProtocol N K)) (mech : NegotiatedProtocol N K) → hand_of mech ≡ hand_of s.mech →
      is_marked ((hand n k).counts mech) ≡ is_marked ((hand n k).counts s.mech) → Q s → Q (record s { mech = mech })

  pub counted_hand : (m : NegotiatedProtocol N K) (i : Counts) → hand_of ((hand n k).counted m i) ≡ hand_of m
  counted_hand (hands.Ntlm m) i = refl
  counted_hand (hands.Kerberos m) i = refl

  pub identified_hand : (m m2 : NegotiatedProtocol N K) (ids : List Credentials) → (hand n k).identifies m ids m2 → hand_of m2 ≡ hand_of m
  identified_hand (hands.Ntlm m) (hands.Ntlm m2) ids h = refl
  identified_hand (hands.Ntlm m) (hands.Kerberos m2) ids h = absurd h
  identified_hand (hands.Kerberos m) (hands.Ntlm m2) ids h = absurd h
  identified_hand (hands.Kerberos m) (hands.Kerberos m2) ids h = refl

  pub acquired_hand : (m m2 : NegotiatedProtocol N K) (u : CredentialUse) (d : Option Credentials) (b : Option CredentialsBuffers) →
      (hand n k).acquires m u d b m2 → hand_of m2 ≡ hand_of m
  acquired_hand (hands.Ntlm m) (hands.Ntlm m2) u d b h = refl
  acquired_hand (hands.Ntlm m) (hands.Kerberos m2) u d b h = absurd h
  acquired_hand (hands.Kerberos m) (hands.Ntlm m2) u d b h = absurd h
  acquired_hand (hands.Kerberos m) (hands.Kerberos m2) u d b h = refl

module _ {N K : Type 0} (r q : ℕ) (n : Meaning Setting N) (k : Meaning Setting K) (ln : IsMechanism r n) (lk : IsMechanism q k) where
  -- other counts of messages, the same counts of MICs
  pub holds_recounted : (Q : Negotiation (NegotiatedProtocol N K) → Type 0) → IsOfMics n k Q → (m : SspiContext N K) (i : Counts) →
      silent i ≡ silent ((either r n k).counts m) → HoldsOf n k Q (Some m) → HoldsOf n k Q (Some ((either r n k).counted m i))
  holds_recounted Q of_mics (contexts.Negotiate s) i same h =
      of_mics s ((hand n k).counted s.mech i) (counted_hand n k s.mech i)
      (ap is_marked ((hand_keeps r q n k ln lk).counted s.mech i) ∙ marked_same i ((hand n k).counts s.mech) same) h
  holds_recounted Q of_mics (contexts.Ntlm m) i same h = ap is_marked (ln.counts_counted m i) ∙ marked_same i (n.counts m) same ∙ h
  holds_recounted Q of_mics (contexts.Kerberos m) i same h = ap is_marked (lk.counts_counted m i) ∙ marked_same i (k.counts m) same ∙ h

  -- the same context, except for what it sealed and opened
  pub holds_cleared : (Q : Negotiation (NegotiatedProtocol N K) → Type 0) → IsOfMics n k Q → (m m2 : SspiContext N K) →
      cleared (either r n k) m2 ≡ cleared (either r n k) m → HoldsOf n k Q (Some m) → HoldsOf n k Q (Some m2)
  holds_cleared Q of_mics m m2 same h =
      let law : IsContext (either r n k) = lawful r q n k ln lk in
      let clear = holds_recounted Q of_mics m (silent ((either r n k).counts m)) refl h in
      let other : HoldsOf n k Q (Some (cleared (either r n k) m2)) =
      subst (λ (x : SspiContext N K). HoldsOf n k Q (Some x)) (sym same) clear in
      subst (λ (x : SspiContext N K). HoldsOf n k Q (Some x))
      (law.counted_counted m2 (silent ((either r n k).counts m2)) ((either r n k).counts m2) ∙ law.counted_counts m2)
      (holds_recounted Q of_mics (cleared (either r n k) m2) ((either r n k).counts m2)
      (sym (ap silent (law.counts_counted m2 (silent ((either r n k).counts m2))))) other)

  pub holds_same_but : (Q : Negotiation (NegotiatedProtocol N K) → Type 0) → IsOfMics n k Q →
      (context context2 : Option (SspiContext N K)) →
      SameBut (either r n k) context context2 → HoldsOf n k Q context → HoldsOf n k Q context2
  holds_same_but Q of_mics None None same h = h
  holds_same_but Q of_mics None (Some m2) same h = absurd same
  holds_same_but Q of_mics (Some m) None same h = absurd same
  holds_same_but Q of_mics (Some m) (Some m2) same h = holds_cleared Q of_mics m m2 same h

  pub holds_identified : (Q : Negotiation (NegotiatedProtocol N K) → Type 0) → IsOfMics n k Q → (m m2 : SspiContext N K)
      (ids : List Credentials) → (either r n k).identifies m ids m2 → HoldsOf n k Q (Some m) → HoldsOf n k Q (Some m2)
  holds_identified Q of_mics (contexts.Negotiate s) (contexts.Negotiate s2) ids found h =
      subst Q (sym found.1) (of_mics s s2.mech (identified_hand n k s.mech s2.mech ids found.0)
      (ap is_marked ((hand_keeps r q n k ln lk).identified s.mech s2.mech ids found.0)) h)
  holds_identified Q of_mics (contexts.Ntlm m) (contexts.Ntlm m2) ids found h = ap is_marked (ln.identify_counts m m2 _ found) ∙ h
  holds_identified Q of_mics (contexts.Kerberos m) (contexts.Kerberos m2) ids found h = ap is_marked (lk.identify_counts m m2 _ found) ∙ h
  holds_identified Q of_mics (contexts.Negotiate s) (contexts.Ntlm m2) ids found h = absurd found
  holds_identified Q of_mics (contexts.Negotiate s) (contexts.Kerberos m2) ids found h = absurd found
  holds_identified Q of_mics (contexts.Ntlm m) (contexts.Negotiate s2) ids found h = absurd found
  holds_identified Q of_mics (contexts.Ntlm m) (contexts.Kerberos m2) ids found h = absurd found
  holds_identified Q of_mics (contexts.Kerberos m) (contexts.Negotiate s2) ids found h = absurd found
  holds_identified Q of_mics (contexts.Kerberos m) (contexts.Ntlm m2) ids found h = absurd found

  -- a step, by what a negotiation makes of it
  module _ (Q R : Negotiation (NegotiatedProtocol N K) → Type 0) where
    pub holds_accepted : (m m2 : SspiContext N K) (args : AcceptArgs) (x : Result Step Error) →
        ((s s2 : Negotiation (NegotiatedProtocol N K)) → (negotiate r n k).accepts s args x s2 → Q s → R s2) →
        (either r n k).accepts m args x m2 → HoldsOf n k Q (Some m) → HoldsOf n k R (Some m2)
    holds_accepted (contexts.Negotiate s) (contexts.Negotiate s2) args x step a h = step s s2 a h
    holds_accepted (contexts.Ntlm m) (contexts.Ntlm m2) args x step a h = ap is_marked (ln.accept_counts m m2 args x a) ∙ h
    holds_accepted (contexts.Kerberos m) (contexts.Kerberos m2) args x step a h = ap is_marked (lk.accept_counts m m2 args x a) ∙ h
    holds_accepted (contexts.Negotiate s) (contexts.Ntlm m2) args x step a h = absurd a
    holds_accepted (contexts.Negotiate s) (contexts.Kerberos m2) args x step a h = absurd a
    holds_accepted (contexts.Ntlm m) (contexts.Negotiate s2) args x step a h = absurd a
    holds_accepted (contexts.Ntlm m) (contexts.Kerberos m2) args x step a h = absurd a
    holds_accepted (contexts.Kerberos m) (contexts.Negotiate s2) args x step a h = absurd a
    holds_accepted (contexts.Kerberos m) (contexts.Ntlm m2) args x step a h = absurd a

    pub holds_stepped : (m m2 : SspiContext N K) (args : StepArgs) (x : Answer) →
        ((s s2 : Negotiation (NegotiatedProtocol N K)) → (negotiate r n k).steps s args x s2 → Q s → R s2) →
        (either r n k).steps m args x m2 → HoldsOf n k Q (Some m) → HoldsOf n k R (Some m2)
    holds_stepped (contexts.Negotiate s) (contexts.Negotiate s2) args x step a h = step s s2 a h
    holds_stepped (contexts.Ntlm m) (contexts.Ntlm m2) args x step a h = ap is_marked (ln.step_counts m m2 args x a) ∙ h
    holds_stepped (contexts.Kerberos m) (contexts.Kerberos m2) args x step a h = ap is_marked (lk.step_counts m m2 args x a) ∙ h
    holds_stepped (contexts.Negotiate s) (contexts.Ntlm m2) args x step a h = absurd a
    holds_stepped (contexts.Negotiate s) (contexts.Kerberos m2) args x step a h = absurd a
    holds_stepped (contexts.Ntlm m) (contexts.Negotiate s2) args x step a h = absurd a
    holds_stepped (contexts.Ntlm m) (contexts.Kerberos m2) args x step a h = absurd a
    holds_stepped (contexts.Kerberos m) (contexts.Negotiate s2) args x step a h = absurd a
    holds_stepped (contexts.Kerberos m) (contexts.Ntlm m2) args x step a h = absurd a

    pub holds_resumed : (m m2 : SspiContext N K) (reply : Reply) (x : Answer) →
        ((s s2 : Negotiation (NegotiatedProtocol N K)) → (negotiate r n k).resumes s reply x s2 → Q s → R s2) →
        (either r n k).resumes m reply x m2 → HoldsOf n k Q (Some m) → HoldsOf n k R (Some m2)
    holds_resumed (contexts.Negotiate s) (contexts.Negotiate s2) reply x step a h = step s s2 a h
    holds_resumed (contexts.Ntlm m) (contexts.Ntlm m2) reply x step a h = ap is_marked (ln.resume_counts m m2 reply x a) ∙ h
    holds_resumed (contexts.Kerberos m) (contexts.Kerberos m2) reply x step a h = ap is_marked (lk.resume_counts m m2 reply x a) ∙ h
    holds_resumed (contexts.Negotiate s) (contexts.Ntlm m2) reply x step a h = absurd a
    holds_resumed (contexts.Negotiate s) (contexts.Kerberos m2) reply x step a h = absurd a
    holds_resumed (contexts.Ntlm m) (contexts.Negotiate s2) reply x step a h = absurd a
    holds_resumed (contexts.Ntlm m) (contexts.Kerberos m2) reply x step a h = absurd a
    holds_resumed (contexts.Kerberos m) (contexts.Negotiate s2) reply x step a h = absurd a
    holds_resumed (contexts.Kerberos m) (contexts.Ntlm m2) reply x step a h = absurd a
