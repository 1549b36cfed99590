-- How far a step got in a plan, as the selected mechanism shows, even if running out of memory
-- broke the step off.
use Rattle.std.specs.Prelude.{◌≡◌, ◌⊎◌, List, ℕ, Some, Result, Ok, Err}
use Rattle.sspi_types.specs.declared.error.Error.{Error}
use Rattle.sspi_types.specs.declared.error_kind.ErrorKind.{ErrorKind}
use Rattle.sspi_names.specs.Name.{Name}
use Rattle.sspi_mech.specs.declared.step.Answer.{Answer}
use Rattle.sspi_mech.specs.declared.step.Answer.TheVariants.{Done, Ask, Refused}
use Rattle.sspi_mech.specs.declared.step.Step.{Step}
use Rattle.sspi_mech.specs.Calls.{ToSign, ToVerify, one_signing, one_verification}
use Rattle.sspi_mech.specs.Meaning.{Meaning}
use Rattle.sspi_negotiate.specs.Hand.{Origin}
use Rattle.sspi_negotiate.specs.Plan.{Plan, Goes, Stops, Takes, Steps, Resumes, Accepts, Pairs}
use Rattle.sspi_negotiate.specs.Plan.{Names, Identifies, Signs, Verifies}

-- After a client's step comes nothing more, or what follows its answer. A request to a KDC ends the
-- step.
abbrev pub Onwards : {M : Type 0} → Answer → (Step → Type 0) → (ErrorKind → Type 0) → Answer → M →
    M → Type 0
Onwards (Done step) go fall r m1 m2 = (m2 ≡ m1) ⊎ go step
Onwards (Ask request) go fall r m1 m2 = (m2 ≡ m1) × (r ≡ Ask request)
Onwards (Refused error) go fall r m1 m2 = (m2 ≡ m1) ⊎ fall error.error_type

-- the same after a server's step, whose refusal refuses the whole
abbrev pub Accepted : {M : Type 0} → Result Step Error → (Step → Type 0) → Answer → M → M → Type 0
Accepted (Ok step) go r m1 m2 = (m2 ≡ m1) ⊎ go step
Accepted (Err error) go r m1 m2 = (m2 ≡ m1) × (r ≡ Refused error)

module _ {M : Type 0} (c : Meaning Origin M) where
  -- m2 is what the first calls of this plan made of m, at least one of them; the answer is r
  abbrev pub Moved : Plan → M → Answer → M → Type 0
  Moved (Goes v step) m r m2 = ⊥
  Moved (Stops v kind) m r m2 = ⊥
  Moved (Takes origin p) m r m2 = (m1 : M) × c.made origin m1 × ((m2 ≡ m1) ⊎ Moved p m1 r m2)
  Moved (Steps args v go fall) m r m2 = (m1 : M) × (x : Answer) × c.steps m args x m1
      × Onwards x (λ step. Moved (go step) m1 r m2) (λ kind. Moved (fall kind) m1 r m2) r m1 m2
  Moved (Resumes reply v go fall) m r m2 = (m1 : M) × (x : Answer) × c.resumes m reply x m1
      × Onwards x (λ step. Moved (go step) m1 r m2) (λ kind. Moved (fall kind) m1 r m2) r m1 m2
  Moved (Accepts args v go) m r m2 = (m1 : M) × (x : Result Step Error) × c.accepts m args x m1
      × Accepted x (λ step. Moved (go step) m1 r m2) r m1 m2
  Moved (Pairs go) m r m2 = Moved (go (c.pairs m)) m r m2
  Moved (Names v go) m r m2 = (name : Name) × (c.names m ≡ Some name) × Moved (go name) m r m2
  Moved (Identifies identities v p) m r m2 = (m1 : M) × c.identifies m identities m1 ×
      ((m2 ≡ m1) ⊎ Moved p m1 r m2)
  Moved (Signs text v go) m r m2 = (m1 : M) × (mic : List ℕ) ×
      c.signs m1 (c.counts m).signings text mic
      × (m1 ≡ c.counted m (one_signing (c.counts m))) × c.permits m (ToSign text) ×
      ((m2 ≡ m1) ⊎ Moved (go mic) m1 r m2)
  Moved (Verifies mic text v p) m r m2 = (m1 : M) ×
      c.verifies m1 (c.counts m).verifications mic text
      × (m1 ≡ c.counted m (one_verification (c.counts m))) × c.permits m (ToVerify mic text) ×
      ((m2 ≡ m1) ⊎ Moved p m1 r m2)

  -- m2 is m, or what the first calls of this plan made of it
  abbrev pub Reaches : Plan → M → Answer → M → Type 0
  Reaches p m r m2 = (m2 ≡ m) ⊎ Moved p m r m2
