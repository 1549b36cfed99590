-- The laws of every mechanism.
use Rattle.std.specs.Prelude.{◌≡◌, ℕ, ◌<◌, ◌≤◌, List, length, Option, Result, Ok, Err, true, false}
use Rattle.sspi_types.specs.declared.credential_use.CredentialUse.{CredentialUse}
use Rattle.sspi_types.specs.declared.error.Error.{Error}
use Rattle.sspi_names.specs.declared.credentials.Credentials.{Credentials}
use Rattle.sspi_names.specs.declared.credentials.CredentialsBuffers.{CredentialsBuffers}
use Rattle.sspi_names.specs.declared.network.NetworkRequest.{NetworkRequest}
use Rattle.sspi_mech.specs.declared.step.Answer.{Answer}
use Rattle.sspi_mech.specs.declared.step.Answer.TheVariants.{Done, Ask, Refused}
use Rattle.sspi_mech.specs.declared.step.Reply.{Reply}
use Rattle.sspi_mech.specs.declared.step.Step.{Step}
use Rattle.sspi_mech.specs.Calls.{StepArgs, AcceptArgs, Counts, no_counts}
use Rattle.sspi_mech.specs.Meaning.{Meaning}

-- What holds for every mechanism, whoever wrote it.
pub record IsMechanism {S M : Type 0} (requests : ℕ) (it : Meaning S M) : Type 0 where
  -- a made object has protected nothing, and asks a KDC at most `requests` times
  pub made_fresh : (s : S) (m : M) → it.made s m → it.counts m ≡ no_counts
  pub made_left : (s : S) (m : M) → it.made s m → it.left m ≤ requests
  -- a refusal leaves the object as it was; so a refused resume still waits
  pub step_refused : (m m2 : M) (a : StepArgs) (e : Error) → it.steps m a (Refused e) m2 → m2 ≡ m
  pub resume_refused : (m m2 : M) (b : Reply) (e : Error) → it.resumes m b (Refused e) m2 → m2 ≡ m
  pub accept_refused : (m m2 : M) (a : AcceptArgs) (e : Error) → it.accepts m a (Err e) m2 → m2 ≡ m
  -- each request to a KDC leaves fewer to make, and no call leaves more
  pub acquire_left : (m m2 : M) (u : CredentialUse) (d : Option Credentials)
      (b : Option CredentialsBuffers) →
      it.acquires m u d b m2 → it.left m2 ≤ it.left m
  pub step_left : (m m2 : M) (a : StepArgs) (r : Answer) → it.steps m a r m2 →
      it.left m2 ≤ it.left m
  pub resume_left : (m m2 : M) (b : Reply) (r : Answer) → it.resumes m b r m2 →
      it.left m2 ≤ it.left m
  pub accept_left : (m m2 : M) (a : AcceptArgs) (r : Result Step Error) → it.accepts m a r m2 →
      it.left m2 ≤ it.left m
  pub identify_left : (m m2 : M) (ids : List Credentials) → it.identifies m ids m2 →
      it.left m2 ≤ it.left m
  pub step_asks : (m m2 : M) (a : StepArgs) (q : NetworkRequest) → it.steps m a (Ask q) m2 →
      it.left m2 < it.left m
  pub resume_asks : (m m2 : M) (b : Reply) (q : NetworkRequest) → it.resumes m b (Ask q) m2 →
      it.left m2 < it.left m
  -- an object that asked waits; one whose step is done does not
  pub step_waits : (m m2 : M) (a : StepArgs) (q : NetworkRequest) → it.steps m a (Ask q) m2 →
      it.waits m2 ≡ true
  pub resume_waits : (m m2 : M) (b : Reply) (q : NetworkRequest) → it.resumes m b (Ask q) m2 →
      it.waits m2 ≡ true
  pub step_done : (m m2 : M) (a : StepArgs) (s : Step) → it.steps m a (Done s) m2 →
      it.waits m2 ≡ false
  pub resume_done : (m m2 : M) (b : Reply) (s : Step) → it.resumes m b (Done s) m2 →
      it.waits m2 ≡ false
  pub accept_done : (m m2 : M) (a : AcceptArgs) (s : Step) → it.accepts m a (Ok s) m2 →
      it.waits m2 ≡ false
  -- only calls that protect or check messages change a count
  pub acquire_counts : (m m2 : M) (u : CredentialUse) (d : Option Credentials)
      (b : Option CredentialsBuffers) →
      it.acquires m u d b m2 → it.counts m2 ≡ it.counts m
  pub step_counts : (m m2 : M) (a : StepArgs) (r : Answer) → it.steps m a r m2 →
      it.counts m2 ≡ it.counts m
  pub resume_counts : (m m2 : M) (b : Reply) (r : Answer) → it.resumes m b r m2 →
      it.counts m2 ≡ it.counts m
  pub accept_counts : (m m2 : M) (a : AcceptArgs) (r : Result Step Error) → it.accepts m a r m2 →
      it.counts m2 ≡ it.counts m
  pub identify_counts : (m m2 : M) (ids : List Credentials) → it.identifies m ids m2 →
      it.counts m2 ≡ it.counts m
  -- an object consists of its counts and a part that does not depend on them
  pub counts_counted : (m : M) (n : Counts) → it.counts (it.counted m n) ≡ n
  pub counted_counted : (m : M) (n k : Counts) → it.counted (it.counted m n) k ≡ it.counted m k
  pub counted_counts : (m : M) → it.counted m (it.counts m) ≡ m
  pub names_counted : (m : M) (n : Counts) → it.names (it.counted m n) ≡ it.names m
  pub keyed_counted : (m : M) (n : Counts) → it.keyed (it.counted m n) ≡ it.keyed m
  pub session_key_counted : (m : M) (n : Counts) →
      it.session_key (it.counted m n) ≡ it.session_key m
  pub waits_counted : (m : M) (n : Counts) → it.waits (it.counted m n) ≡ it.waits m
  pub left_counted : (m : M) (n : Counts) → it.left (it.counted m n) ≡ it.left m
  pub pairs_counted : (m : M) (n : Counts) → it.pairs (it.counted m n) ≡ it.pairs m
  pub seals_counted : (m : M) (n : Counts) (i : ℕ) (text blob : List ℕ) →
      it.seals (it.counted m n) i text blob → it.seals m i text blob
  pub opens_counted : (m : M) (n : Counts) (i : ℕ) (blob text : List ℕ) →
      it.opens (it.counted m n) i blob text → it.opens m i blob text
  pub signs_counted : (m : M) (n : Counts) (i : ℕ) (text mic : List ℕ) →
      it.signs (it.counted m n) i text mic → it.signs m i text mic
  pub verifies_counted : (m : M) (n : Counts) (i : ℕ) (mic text : List ℕ) →
      it.verifies (it.counted m n) i mic text →
      it.verifies m i mic text
  -- a blob opens to one text
  pub one_text : (m : M) (i : ℕ) (blob text other : List ℕ) → it.opens m i blob text →
      it.opens m i blob other → text ≡ other
  -- a sealed text has at least 16 bytes
  pub long_blob : (m : M) (i : ℕ) (text blob : List ℕ) → it.seals m i text blob → 16 ≤ length blob
