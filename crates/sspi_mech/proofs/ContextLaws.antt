-- A mechanism is a context.
use Rattle.std.proofs.Common.{◌≡◌, ℕ, ap, inl}
use Rattle.sspi_mech.specs.Calls.{Counts}
use Rattle.sspi_mech.specs.Context.{IsContext, NeitherSealsNorOpens}
use Rattle.sspi_mech.specs.Laws.{IsMechanism}
use Rattle.sspi_mech.specs.Meaning.{Meaning}

-- a call that keeps the counts neither seals nor opens
pub silent_by : (n k : Counts) → k ≡ n → NeitherSealsNorOpens n k
silent_by n k same = inl (ap (λ (i : Counts). i.sealings) same, ap (λ (i : Counts). i.unsealings) same)

pub contextual : {S M : Type 0} (requests : ℕ) (it : Meaning S M) → IsMechanism requests it → IsContext it
contextual requests it laws = record {
  made_fresh = laws.made_fresh;
  acquire_silent = λ m m2 u d b acquired. silent_by _ _ (laws.acquire_counts m m2 u d b acquired);
  identify_counts = laws.identify_counts;
  step_silent = λ m m2 a r stepped. silent_by _ _ (laws.step_counts m m2 a r stepped);
  resume_silent = λ m m2 b r resumed. silent_by _ _ (laws.resume_counts m m2 b r resumed);
  accept_silent = λ m m2 a r accepted. silent_by _ _ (laws.accept_counts m m2 a r accepted);
  resume_asks = laws.resume_asks;
  step_waits = laws.step_waits;
  resume_waits = laws.resume_waits;
  step_done = laws.step_done;
  resume_done = laws.resume_done;
  counts_counted = laws.counts_counted;
  counted_counted = laws.counted_counted;
  counted_counts = laws.counted_counts;
  names_counted = laws.names_counted;
  keyed_counted = laws.keyed_counted;
  session_key_counted = laws.session_key_counted;
  waits_counted = laws.waits_counted;
  left_counted = laws.left_counted;
  pairs_counted = laws.pairs_counted;
  seals_counted = laws.seals_counted;
  opens_counted = laws.opens_counted;
  signs_counted = laws.signs_counted;
  verifies_counted = laws.verifies_counted;
  one_text = laws.one_text;
  long_blob = laws.long_blob;
}
