-- A fact about a context's negotiation is kept by all that the context does besides its steps. It
-- says nothing about a context that does not negotiate.
use Rattle.std.proofs.Common.{◌≡◌, ℕ, refl, sym, ◌∙◌, ap, subst}
use Rattle.sspi_mech.specs.Calls.{Counts}
use Rattle.sspi_mech.specs.Context.{IsContext}
use Rattle.sspi_mech.specs.Laws.{IsMechanism}
use Rattle.sspi_mech.specs.Meaning.{Meaning}
use Rattle.sspi_mech.specs.Settings.{Setting}
use Rattle.sspi_negotiate.specs.declared.protocol.NegotiatedProtocol.{NegotiatedProtocol}
use Rattle.sspi_negotiate.specs.Hand.{hand, hand_of}
use Rattle.sspi_negotiate.specs.Values.{Negotiation}
use Rattle.sspi_negotiate.proofs.HandLaws.{hand_lawful}
use Rattle.sspi_credssp.specs.declared.context.SspiContext.{SspiContext}
use Rattle.sspi_credssp.specs.declared.context.SspiContext.TheVariants as contexts
use Rattle.sspi_credssp.specs.Acts.{silent, cleared}
use Rattle.sspi_credssp.specs.Context.{either}
use Rattle.sspi_credssp.proofs.ContextLaws.{lawful}
use Rattle.sspi_play.proofs.Contexts.{counted_hand}
use Rattle.sspi_play.proofs.Marks.{hand_keeps}

module _ {N K : Type 0} (n : Meaning Setting N) (k : Meaning Setting K) where
  abbrev pub OnNegotiation : (Negotiation (NegotiatedProtocol N K) → Type 0) → SspiContext N K → Type 0
  OnNegotiation Q (contexts.Negotiate s) = Q s
  OnNegotiation Q (contexts.Ntlm m) = Unit {0}
  OnNegotiation Q (contexts.Kerberos m) = Unit {0}

  pub map_on : (Q R : Negotiation (NegotiatedProtocol N K) → Type 0) → ((s : Negotiation (NegotiatedProtocol N K)) → Q s → R s) →
      (m : SspiContext N K) → OnNegotiation Q m → OnNegotiation R m
  map_on Q R map (contexts.Negotiate s) h = map s h
  map_on Q R map (contexts.Ntlm m) h = tt
  map_on Q R map (contexts.Kerberos m) h = tt

  -- the same mechanism, except for what it sealed and opened
  pub record IsLike (mech mech2 : NegotiatedProtocol N K) : Type 0 where
    pub cleared : (hand n k).counted mech2 (silent ((hand n k).counts mech2)) ≡ (hand n k).counted mech (silent ((hand n k).counts mech))
    pub protocol : hand_of mech2 ≡ hand_of mech
    pub verifications : ((hand n k).counts mech2).verifications ≡ ((hand n k).counts mech).verifications
    pub names : (hand n k).names mech2 ≡ (hand n k).names mech

  -- of the mechanism, the fact depends only on these
  abbrev pub IsOfLike : (Negotiation (NegotiatedProtocol N K) → Type 0) → Type 0
  IsOfLike Q = (s : Negotiation (NegotiatedProtocol N K)) (mech : NegotiatedProtocol N K) → IsLike s.mech mech → Q s →
      Q (record s { mech = mech })

module _ {N K : Type 0} (r q : ℕ) (n : Meaning Setting N) (k : Meaning Setting K) (ln : IsMechanism r n) (lk : IsMechanism q k) where
  -- other counts of messages, the same counts of MICs
  pub counted_on : (Q : Negotiation (NegotiatedProtocol N K) → Type 0) → IsOfLike n k Q → (m : SspiContext N K) (i : Counts) →
      silent i ≡ silent ((either r n k).counts m) → OnNegotiation n k Q m → OnNegotiation n k Q ((either r n k).counted m i)
  counted_on Q of_like (contexts.Negotiate s) i same h = of_like s ((hand n k).counted s.mech i) (record {
    cleared = (hand_lawful r q n k ln lk).counted_counted s.mech i _
        ∙ ap (λ (x : Counts). (hand n k).counted s.mech (silent x)) ((hand_keeps r q n k ln lk).counted s.mech i)
        ∙ ap (λ (x : Counts). (hand n k).counted s.mech x) same;
    protocol = counted_hand n k s.mech i;
    verifications = ap (λ (x : Counts). x.verifications) ((hand_keeps r q n k ln lk).counted s.mech i)
        ∙ ap (λ (x : Counts). x.verifications) same;
    names = (hand_lawful r q n k ln lk).names_counted s.mech i;
  }) h
  counted_on Q of_like (contexts.Ntlm m) i same h = tt
  counted_on Q of_like (contexts.Kerberos m) i same h = tt

  -- the same context, except for what it sealed and opened
  pub cleared_on : (Q : Negotiation (NegotiatedProtocol N K) → Type 0) → IsOfLike n k Q → (m m2 : SspiContext N K) →
      cleared (either r n k) m2 ≡ cleared (either r n k) m → OnNegotiation n k Q m → OnNegotiation n k Q m2
  cleared_on Q of_like m m2 same h =
      let law : IsContext (either r n k) = lawful r q n k ln lk in
      let clear = counted_on Q of_like m (silent ((either r n k).counts m)) refl h in
      let other : OnNegotiation n k Q (cleared (either r n k) m2) =
      subst (λ (x : SspiContext N K). OnNegotiation n k Q x) (sym same) clear in
      subst (λ (x : SspiContext N K). OnNegotiation n k Q x)
      (law.counted_counted m2 (silent ((either r n k).counts m2)) ((either r n k).counts m2) ∙ law.counted_counts m2)
      (counted_on Q of_like (cleared (either r n k) m2) ((either r n k).counts m2)
      (sym (ap silent (law.counts_counted m2 (silent ((either r n k).counts m2))))) other)
