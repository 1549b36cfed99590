-- The host's mechanism satisfies the laws of a mechanism.
use Rattle.std.specs.Prelude.{◌≡◌, ℕ, ◌≤◌, ◌++◌, List, [], ◌∷◌, length, Bool, true, false, Option}
use Rattle.std.specs.Prelude.{None, Some, Result, Ok, Err, refl}
use Rattle.std.specs.Prelude.{if◌then◌else◌}
use Rattle.std.proofs.Common.{ap, subst, arith, length-append}
use Rattle.std.proofs.lemmas.List.{length-replicate}
use Rattle.sspi_types.specs.declared.error.Error.{Error}
use Rattle.sspi_names.specs.Name.{Name}
use Rattle.sspi_mech.specs.declared.step.Answer.{Answer}
use Rattle.sspi_mech.specs.declared.step.Answer.TheVariants.{Done, Ask, Refused}
use Rattle.sspi_mech.specs.declared.step.Reply.{Reply}
use Rattle.sspi_mech.specs.declared.step.Step.{Step}
use Rattle.sspi_mech.specs.Calls.{StepArgs}
use Rattle.sspi_mech.specs.Laws.{IsMechanism}
use Rattle.sspi_outside.specs.Envelope.{Said, Ended, GoesOn, UserToUser, Denied, Unsaid, said}
use Rattle.sspi_outside.specs.Envelope.{Introduced, introduced, name_of, no_tag}
use Rattle.sspi_outside.specs.Outside.{OutsideState, outside_meaning, Outcome, Goes, Stops, Denies}
use Rattle.sspi_outside.specs.Outside.{Steps, takes, hears_of, hears_name, hears}
use Rattle.sspi_outside.specs.Outside.{client_step, server_step, OutsideSteps, OutsideResumes}

-- an outcome keeps the counts of its object
abbrev Keeps : OutsideState → Outcome → Type 0
Keeps m (Goes m2 step) = m2.counts ≡ m.counts
Keeps m (Stops kind) = Unit {0}
Keeps m (Denies code) = Unit {0}

takes_keeps : (m : OutsideState) (heard : Option Name) (it : Said) → Keeps m (takes m heard it)
takes_keeps m heard (Ended token) = refl
takes_keeps m heard (GoesOn token) = refl
takes_keeps m heard (UserToUser token) = refl
takes_keeps m heard (Denied code) = tt
takes_keeps m heard Unsaid = tt

hears_of_keeps : (m : OutsideState) (heard : Option Name) (step : List ℕ) →
    Keeps m (hears_of m heard step)
hears_of_keeps m None step = tt
hears_of_keeps m (Some name) step = takes_keeps m (Some name) (said step)

hears_name_keeps : (m : OutsideState) (name step : List ℕ) → Keeps m (hears_name m name step)
hears_name_keeps m [] step = takes_keeps m None (said step)
hears_name_keeps m (b ∷ name) step = hears_of_keeps m (name_of (b ∷ name)) step

hears_keeps : (m : OutsideState) (it : Option Introduced) → Keeps m (hears m it)
hears_keeps m None = tt
hears_keeps m (Some it) = hears_name_keeps m it.name it.step

either_keeps : (m : OutsideState) (ended : Bool) (stop go : Outcome) → Keeps m stop → Keeps m go →
    Keeps m (if ended then stop else go)
either_keeps m true stop go a b = a
either_keeps m false stop go a b = b

client_keeps : (m : OutsideState) (envelope : List ℕ) → Keeps m (client_step m envelope)
client_keeps m envelope = either_keeps m m.ended _ _ tt (takes_keeps m None (said envelope))

server_keeps : (m : OutsideState) (envelope : List ℕ) → Keeps m (server_step m envelope)
server_keeps m envelope = either_keeps m m.ended _ _ tt (hears_keeps m (introduced envelope))

steps_keep : (outcome : Outcome) (m m2 : OutsideState) (r : Result Step Error) → Keeps m outcome →
    Steps outcome m r m2 →
    m2.counts ≡ m.counts
steps_keep outcome m m2 (Ok s) keeps stepped = subst (Keeps m) stepped keeps
steps_keep outcome m m2 (Err e) keeps stepped = ap (λ (x : OutsideState). x.counts) stepped.1

step_counts : (m m2 : OutsideState) (a : StepArgs) (r : Answer) → OutsideSteps m a r m2 →
    m2.counts ≡ m.counts
step_counts m m2 a (Done s) stepped = steps_keep _ m m2 (Ok s) (client_keeps m a.input) stepped
step_counts m m2 a (Ask q) stepped = absurd stepped
step_counts m m2 a (Refused e) stepped = steps_keep _ m m2 (Err e) (client_keeps m a.input) stepped

resume_counts : (m m2 : OutsideState) (b : Reply) (r : Answer) → OutsideResumes m b r m2 →
    m2.counts ≡ m.counts
resume_counts m m2 b (Done s) resumed = absurd resumed
resume_counts m m2 b (Ask q) resumed = absurd resumed
resume_counts m m2 b (Refused e) resumed = ap (λ (x : OutsideState). x.counts) resumed.1

long_blob : (m : OutsideState) (i : ℕ) (text blob : List ℕ) → blob ≡ no_tag ++ text →
    16 ≤ length blob
long_blob m i text blob sealed = rw sealed
    (omega (arith, length-append no_tag text, length-replicate {A = ℕ} 16 0))

pub outside_laws : IsMechanism 0 outside_meaning
outside_laws = record {
  made_fresh = λ s m made. ap (λ (x : OutsideState). x.counts) made;
  made_left = λ s m made. omega arith;
  step_refused = λ m m2 a e stepped. stepped.1;
  resume_refused = λ m m2 b e resumed. resumed.1;
  accept_refused = λ m m2 a e accepted. accepted.1;
  step_asks = λ m m2 a q stepped. absurd stepped;
  resume_asks = λ m m2 b q resumed. absurd resumed;
  acquire_left = λ m m2 u d b acquired. omega arith;
  step_left = λ m m2 a r stepped. omega arith;
  resume_left = λ m m2 b r resumed. omega arith;
  accept_left = λ m m2 a r accepted. omega arith;
  identify_left = λ m m2 ids is. omega arith;
  step_waits = λ m m2 a q stepped. absurd stepped;
  resume_waits = λ m m2 b q resumed. absurd resumed;
  step_done = λ m m2 a s stepped. refl;
  resume_done = λ m m2 b s resumed. refl;
  accept_done = λ m m2 a s accepted. refl;
  acquire_counts = λ m m2 u d b acquired. ap (λ (x : OutsideState). x.counts) acquired.1;
  step_counts = step_counts;
  resume_counts = resume_counts;
  accept_counts = λ m m2 a r accepted. steps_keep _ m m2 r (server_keeps m a.input) accepted;
  identify_counts = λ m m2 ids is. ap (λ (x : OutsideState). x.counts) is;
  counts_counted = λ m n. refl;
  counted_counted = λ m n k. refl;
  counted_counts = λ m. refl;
  names_counted = λ m n. refl;
  keyed_counted = λ m n. refl;
  session_key_counted = λ m n. refl;
  waits_counted = λ m n. refl;
  left_counted = λ m n. refl;
  pairs_counted = λ m n. refl;
  seals_counted = λ m n i text blob sealed. sealed;
  opens_counted = λ m n i blob text opened. opened;
  signs_counted = λ m n i text mic signed. signed;
  verifies_counted = λ m n i mic text verified. verified;
  one_text = λ m i blob text other opened again. cc;
  long_blob = long_blob;
}
