-- Where a plan leads, each answer being one that the mechanism selected at that point gives.
use Rattle.std.specs.Prelude.{◌≡◌, ◌≢◌, Some, Ok, Err}
use Rattle.sspi_types.specs.declared.error.Error.{Error}
use Rattle.sspi_types.specs.declared.error_kind.ErrorKind.{ErrorKind}
use Rattle.sspi_types.specs.declared.error_kind.ErrorKind.TheVariants.{InsufficientMemory}
use Rattle.sspi_mech.specs.declared.step.Answer.{Answer}
use Rattle.sspi_mech.specs.declared.step.Answer.TheVariants.{Done, Ask, Refused}
use Rattle.sspi_mech.specs.declared.step.Step.{Step}
use Rattle.sspi_mech.specs.Calls.{Call, ToName, ToIdentify, ToSign, ToVerify, one_signing}
use Rattle.sspi_mech.specs.Calls.{one_verification}
use Rattle.sspi_mech.specs.Meaning.{Meaning}
use Rattle.sspi_negotiate.specs.Hand.{Origin}
use Rattle.sspi_negotiate.specs.Plan.{Plan, Goes, Stops, Takes, Steps, Resumes, Accepts, Pairs}
use Rattle.sspi_negotiate.specs.Plan.{Names, Identifies, Signs, Verifies}
use Rattle.sspi_negotiate.specs.Values.{Values}

-- the answer is a refusal with this kind
abbrev pub IsRefusal : ErrorKind → Answer → Type 0
IsRefusal kind (Done step) = ⊥
IsRefusal kind (Ask request) = ⊥
IsRefusal kind (Refused error) = error.error_type ≡ kind

-- A question that is answered or refused. If it is refused, so is the whole step, with the same
-- error, and these values are left.
pub data Asked {M T : Type 0} (Good : T → M → Type 0) (Bad : Error → M →
    Type 0) (r : Answer) (v v2 : Values) (m2 : M) : Type 0 where
  answered : (t : T) (m1 : M) → Good t m1 → Asked Good Bad r v v2 m2
  refused : (error : Error) → Bad error m2 → r ≡ Refused error → v2 ≡ v → Asked Good Bad r v v2 m2

-- A client's step is made, waits for a KDC, or is refused. No plan covers running out of memory.
abbrev pub Went : {M : Type 0} → Answer → (Step → Type 0) → (ErrorKind → Type 0) → Answer → Values →
    Values → M → M → Type 0
Went (Done step) go fall r v v2 m1 m2 = go step
Went (Ask request) go fall r v v2 m1 m2 = (r ≡ Ask request) × (v2 ≡ v) × (m2 ≡ m1)
Went (Refused error) go fall r v v2 m1 m2 = (error.error_type ≢ InsufficientMemory) ×
    fall error.error_type

-- the mechanism refuses a call that is not a step, and stays as it was
abbrev pub RefusedTo : {M : Type 0} → Meaning Origin M → Call → M → Error → M → Type 0
RefusedTo c call m error m2 = c.refuses m call error.error_type × (m2 ≡ m)

module _ {M : Type 0} (c : Meaning Origin M) where
  -- by this plan m becomes m2, the answer is r, and the values are then v2
  abbrev pub Follows : Plan → M → Answer → Values → M → Type 0
  Follows (Goes v step) m r v2 m2 = (r ≡ Done step) × (v2 ≡ v) × (m2 ≡ m)
  Follows (Stops v kind) m r v2 m2 = IsRefusal kind r × (v2 ≡ v) × (m2 ≡ m)
  Follows (Takes origin p) m r v2 m2 = (m1 : M) × c.made origin m1 × Follows p m1 r v2 m2
  Follows (Steps args v go fall) m r v2 m2 = (m1 : M) × (x : Answer) × c.steps m args x m1
      × Went x (λ step. Follows (go step) m1 r v2 m2) (λ kind. Follows (fall kind) m1 r v2 m2) r v
      v2 m1 m2
  Follows (Resumes reply v go fall) m r v2 m2 = (m1 : M) × (x : Answer) × c.resumes m reply x m1
      × Went x (λ step. Follows (go step) m1 r v2 m2) (λ kind. Follows (fall kind) m1 r v2 m2) r v
      v2 m1 m2
  Follows (Accepts args v go) m r v2 m2 =
      Asked (λ step m1. c.accepts m args (Ok step) m1 × Follows (go step) m1 r v2 m2)
      (λ error m1. c.accepts m args (Err error) m1) r v v2 m2
  Follows (Pairs go) m r v2 m2 = Follows (go (c.pairs m)) m r v2 m2
  Follows (Names v go) m r v2 m2 =
      Asked (λ name m1. (c.names m ≡ Some name) × (m1 ≡ m) × Follows (go name) m1 r v2 m2)
      (RefusedTo c ToName m) r v v2 m2
  Follows (Identifies identities v p) m r v2 m2 =
      Asked (λ (_ : Unit {0}) m1. c.identifies m identities m1 ×
      Follows p m1 r v2 m2) (RefusedTo c (ToIdentify identities) m) r v v2 m2
  Follows (Signs text v go) m r v2 m2 =
      Asked (λ mic m1. c.signs m1 (c.counts m).signings text mic ×
      (m1 ≡ c.counted m (one_signing (c.counts m))) × c.permits m (ToSign text)
      × Follows (go mic) m1 r v2 m2) (RefusedTo c (ToSign text) m) r v v2 m2
  Follows (Verifies mic text v p) m r v2 m2 =
      Asked (λ (_ : Unit {0}) m1. c.verifies m1 (c.counts m).verifications mic text ×
      (m1 ≡ c.counted m (one_verification (c.counts m)))
      × c.permits m (ToVerify mic text) × Follows p m1 r v2 m2) (RefusedTo c (ToVerify mic text) m)
      r v v2 m2
