-- What holds for every security context: a mechanism, or what chooses among mechanisms.
use Rattle.std.specs.Prelude.{◌≡◌, ◌⊎◌, ℕ, ◌<◌, ◌≤◌, List, length, Option, Result, true, false}
use Rattle.sspi_types.specs.declared.credential_use.CredentialUse.{CredentialUse}
use Rattle.sspi_types.specs.declared.error.Error.{Error}
use Rattle.sspi_names.specs.declared.credentials.Credentials.{Credentials}
use Rattle.sspi_names.specs.declared.credentials.CredentialsBuffers.{CredentialsBuffers}
use Rattle.sspi_names.specs.declared.network.NetworkRequest.{NetworkRequest}
use Rattle.sspi_mech.specs.declared.step.Answer.{Answer}
use Rattle.sspi_mech.specs.declared.step.Answer.TheVariants.{Done, Ask}
use Rattle.sspi_mech.specs.declared.step.Reply.{Reply}
use Rattle.sspi_mech.specs.declared.step.Step.{Step}
use Rattle.sspi_mech.specs.Calls.{StepArgs, AcceptArgs, Counts, no_counts, IsUnused}
use Rattle.sspi_mech.specs.Meaning.{Meaning}

-- The counts after a call that neither seals nor opens: both as before, or both zero if another
-- mechanism has taken the place of the first.
abbrev pub NeitherSealsNorOpens : Counts → Counts → Type 0
NeitherSealsNorOpens before after =
    ((after.sealings ≡ before.sealings) × (after.unsealings ≡ before.unsealings)) ⊎ IsUnused after

-- What holds for every context, including one that chooses among mechanisms. There a refused step
-- may change the context, and a step may sign and check MICs. Another mechanism may take the place
-- of the first, even when credentials are acquired. None of these seals or opens.
pub record IsContext {S C : Type 0} (c : Meaning S C) : Type 0 where
  pub made_fresh : (s : S) (m : C) → c.made s m → c.counts m ≡ no_counts
  pub acquire_silent : (m m2 : C) (u : CredentialUse) (d : Option Credentials)
      (b : Option CredentialsBuffers) →
      c.acquires m u d b m2 → NeitherSealsNorOpens (c.counts m) (c.counts m2)
  pub identify_counts : (m m2 : C) (ids : List Credentials) → c.identifies m ids m2 →
      c.counts m2 ≡ c.counts m
  pub step_silent : (m m2 : C) (a : StepArgs) (r : Answer) → c.steps m a r m2 →
      NeitherSealsNorOpens (c.counts m) (c.counts m2)
  pub resume_silent : (m m2 : C) (b : Reply) (r : Answer) → c.resumes m b r m2 →
      NeitherSealsNorOpens (c.counts m) (c.counts m2)
  pub accept_silent : (m m2 : C) (a : AcceptArgs) (r : Result Step Error) →
      c.accepts m a r m2 → NeitherSealsNorOpens (c.counts m) (c.counts m2)
  -- each further request to a KDC leaves fewer to make; a client that asked waits, and one whose
  -- step is done does not
  pub resume_asks : (m m2 : C) (b : Reply) (q : NetworkRequest) → c.resumes m b (Ask q) m2 →
      c.left m2 < c.left m
  pub step_waits : (m m2 : C) (a : StepArgs) (q : NetworkRequest) → c.steps m a (Ask q) m2 →
      c.waits m2 ≡ true
  pub resume_waits : (m m2 : C) (b : Reply) (q : NetworkRequest) → c.resumes m b (Ask q) m2 →
      c.waits m2 ≡ true
  pub step_done : (m m2 : C) (a : StepArgs) (s : Step) → c.steps m a (Done s) m2 →
      c.waits m2 ≡ false
  pub resume_done : (m m2 : C) (b : Reply) (s : Step) → c.resumes m b (Done s) m2 →
      c.waits m2 ≡ false
  -- a context consists of its counts and a part that does not depend on them
  pub counts_counted : (m : C) (n : Counts) → c.counts (c.counted m n) ≡ n
  pub counted_counted : (m : C) (n k : Counts) → c.counted (c.counted m n) k ≡ c.counted m k
  pub counted_counts : (m : C) → c.counted m (c.counts m) ≡ m
  pub names_counted : (m : C) (n : Counts) → c.names (c.counted m n) ≡ c.names m
  pub keyed_counted : (m : C) (n : Counts) → c.keyed (c.counted m n) ≡ c.keyed m
  pub session_key_counted : (m : C) (n : Counts) → c.session_key (c.counted m n) ≡ c.session_key m
  pub waits_counted : (m : C) (n : Counts) → c.waits (c.counted m n) ≡ c.waits m
  pub left_counted : (m : C) (n : Counts) → c.left (c.counted m n) ≡ c.left m
  pub pairs_counted : (m : C) (n : Counts) → c.pairs (c.counted m n) ≡ c.pairs m
  pub seals_counted : (m : C) (n : Counts) (i : ℕ) (text blob : List ℕ) →
      c.seals (c.counted m n) i text blob → c.seals m i text blob
  pub opens_counted : (m : C) (n : Counts) (i : ℕ) (blob text : List ℕ) →
      c.opens (c.counted m n) i blob text → c.opens m i blob text
  pub signs_counted : (m : C) (n : Counts) (i : ℕ) (text mic : List ℕ) →
      c.signs (c.counted m n) i text mic → c.signs m i text mic
  pub verifies_counted : (m : C) (n : Counts) (i : ℕ) (mic text : List ℕ) →
      c.verifies (c.counted m n) i mic text → c.verifies m i mic text
  -- a blob opens to one text, and a sealed text has at least 16 bytes
  pub one_text : (m : C) (i : ℕ) (blob text other : List ℕ) → c.opens m i blob text →
      c.opens m i blob other → text ≡ other
  pub long_blob : (m : C) (i : ℕ) (text blob : List ℕ) → c.seals m i text blob → 16 ≤ length blob
