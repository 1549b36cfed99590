-- The selected mechanism is a context, and can ask a KDC less often after each question.
use Rattle.std.proofs.Common.{◌≡◌, ◌⊎◌, ◌<◌, ℕ, List, refl, ap, arith, inl, inr}
use Rattle.sspi_types.specs.declared.error.Error.{Error}
use Rattle.sspi_names.specs.declared.network.NetworkRequest.{NetworkRequest}
use Rattle.sspi_mech.specs.declared.step.Answer.TheVariants.{Ask, Refused}
use Rattle.sspi_mech.specs.declared.step.Reply.{Reply}
use Rattle.sspi_mech.specs.Calls.{StepArgs}
use Rattle.sspi_mech.specs.Context.{IsContext}
use Rattle.sspi_mech.specs.Laws.{IsMechanism}
use Rattle.sspi_mech.specs.Meaning.{Meaning}
use Rattle.sspi_mech.specs.Settings.{Setting}
use Rattle.sspi_mech.proofs.ContextLaws.{contextual}
use Rattle.sspi_mech.proofs.SumLaws.{sum_lawful, taking_lawful, seen_lawful}
use Rattle.sspi_negotiate.specs.declared.protocol.NegotiatedProtocol.{NegotiatedProtocol}
use Rattle.sspi_negotiate.specs.declared.protocol.NegotiatedProtocol.TheVariants as hands
use Rattle.sspi_negotiate.specs.Hand.{as_sum, of_sum, configured, hand, asks_left, in_place_of_kerberos}

pub there : {N K : Type 0} (x : N ⊎ K) → as_sum (of_sum x) ≡ x
there (inl m) = refl
there (inr m) = refl

pub again : {N K : Type 0} (m : NegotiatedProtocol N K) → of_sum (as_sum m) ≡ m
again (hands.Ntlm m) = refl
again (hands.Kerberos m) = refl

module _ {N K : Type 0} (r q : ℕ) (n : Meaning Setting N) (k : Meaning Setting K) (ln : IsMechanism r n) (lk : IsMechanism q k) where
  pub hand_lawful : IsContext (hand n k)
  hand_lawful = seen_lawful configured as_sum of_sum there again _
      (sum_lawful _ _ (taking_lawful _ n (contextual r n ln)) (taking_lawful _ k (contextual q k lk)))

  pub left_falls : (m m2 : NegotiatedProtocol N K) (b : Reply) (e : NetworkRequest) → (hand n k).resumes m b (Ask e) m2 →
      asks_left r n k m2 < asks_left r n k m
  left_falls (hands.Ntlm m) (hands.Ntlm m2) b e h = ln.resume_asks m m2 b e h
  left_falls (hands.Ntlm m) (hands.Kerberos m2) b e h = absurd h
  left_falls (hands.Kerberos m) (hands.Ntlm m2) b e h = absurd h
  left_falls (hands.Kerberos m) (hands.Kerberos m2) b e h = omega (arith, lk.resume_asks m m2 b e h)

  -- an NTLM that was just made, and has asked once
  pub left_again : (computer : List ℕ) (m m2 : NegotiatedProtocol N K) (a : StepArgs) (e : NetworkRequest) →
      (hand n k).made (in_place_of_kerberos computer) m →
      (hand n k).steps m a (Ask e) m2 → asks_left r n k m2 < r
  left_again computer (hands.Ntlm m) (hands.Ntlm m2) a e made h = omega (arith, ln.made_left _ m made, ln.step_asks m m2 a e h)
  left_again computer (hands.Ntlm m) (hands.Kerberos m2) a e made h = absurd h
  left_again computer (hands.Kerberos m) m2 a e made h = absurd made

  pub refused_still : (m m2 : NegotiatedProtocol N K) (b : Reply) (e : Error) → (hand n k).resumes m b (Refused e) m2 → m2 ≡ m
  refused_still (hands.Ntlm m) (hands.Ntlm m2) b e h = ap hands.Ntlm (ln.resume_refused m m2 b e h)
  refused_still (hands.Ntlm m) (hands.Kerberos m2) b e h = absurd h
  refused_still (hands.Kerberos m) (hands.Ntlm m2) b e h = absurd h
  refused_still (hands.Kerberos m) (hands.Kerberos m2) b e h = ap hands.Kerberos (lk.resume_refused m m2 b e h)
