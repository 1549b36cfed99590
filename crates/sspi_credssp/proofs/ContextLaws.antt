-- A context of one of two mechanisms, or of a negotiation over them, keeps the laws of a context.
use Rattle.std.proofs.Common.{◌≡◌, ℕ, ◌⊎◌, inl, inr, refl, filter, take}
use Rattle.sspi_mech.specs.Context.{IsContext}
use Rattle.sspi_mech.specs.Laws.{IsMechanism}
use Rattle.sspi_mech.specs.Meaning.{Meaning}
use Rattle.sspi_mech.specs.Settings.{Setting}
use Rattle.sspi_mech.specs.NtlmIdentities.{has_password}
use Rattle.sspi_mech.proofs.ContextLaws.{contextual}
use Rattle.sspi_mech.proofs.SumLaws.{sum_lawful, taking_lawful, seen_lawful}
use Rattle.sspi_negotiate.specs.declared.protocol.NegotiatedProtocol.{NegotiatedProtocol}
use Rattle.sspi_negotiate.specs.New.{NegotiateSetting}
use Rattle.sspi_negotiate.specs.Values.{Negotiation}
use Rattle.sspi_negotiate.proofs.NegotiateLaws.{negotiate_lawful}
use Rattle.sspi_credssp.specs.declared.context.SspiContext.{SspiContext}
use Rattle.sspi_credssp.specs.declared.context.SspiContext.TheVariants.{Negotiate, Ntlm, Kerberos}
use Rattle.sspi_credssp.specs.Context.{made_of, as_sum, of_sum, either}
use Rattle.sspi_credssp.specs.Peers.{knowing, listed_setting}

there : {N K : Type 0} (m : (N ⊎ K) ⊎ Negotiation (NegotiatedProtocol N K)) → as_sum (of_sum m) ≡ m
there (inl (inl m)) = refl
there (inl (inr m)) = refl
there (inr m) = refl

again : {N K : Type 0} (m : SspiContext N K) → of_sum (as_sum m) ≡ m
again (Negotiate m) = refl
again (Ntlm m) = refl
again (Kerberos m) = refl

knowing_lawful : {M : Type 0} (c : Meaning NegotiateSetting (Negotiation M)) → IsContext c → IsContext (knowing c)
knowing_lawful c laws = record {
  made_fresh = λ s m made. laws.made_fresh (listed_setting s m.known) m made.1;
  acquire_silent = laws.acquire_silent;
  identify_counts = laws.identify_counts;
  step_silent = laws.step_silent;
  resume_silent = laws.resume_silent;
  accept_silent = laws.accept_silent;
  resume_asks = laws.resume_asks;
  step_waits = laws.step_waits;
  resume_waits = laws.resume_waits;
  step_done = laws.step_done;
  resume_done = laws.resume_done;
  counts_counted = laws.counts_counted;
  counted_counted = laws.counted_counted;
  counted_counts = laws.counted_counts;
  names_counted = laws.names_counted;
  keyed_counted = laws.keyed_counted;
  session_key_counted = laws.session_key_counted;
  waits_counted = laws.waits_counted;
  left_counted = laws.left_counted;
  pairs_counted = laws.pairs_counted;
  seals_counted = laws.seals_counted;
  opens_counted = laws.opens_counted;
  signs_counted = laws.signs_counted;
  verifies_counted = laws.verifies_counted;
  one_text = laws.one_text;
  long_blob = laws.long_blob;
}

pub lawful : {N K : Type 0} (requests asks : ℕ) (n : Meaning Setting N) (k : Meaning Setting K) →
    IsMechanism requests n → IsMechanism asks k → IsContext (either requests n k)
lawful requests asks n k of_n of_k = seen_lawful made_of as_sum of_sum there again _ (sum_lawful _ _
    (sum_lawful _ _ (taking_lawful (filter has_password) n (contextual requests n of_n))
    (taking_lawful (take 1) k (contextual asks k of_k)))
    (knowing_lawful _ (negotiate_lawful requests asks n k of_n of_k)))
