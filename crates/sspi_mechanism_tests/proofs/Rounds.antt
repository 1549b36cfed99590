-- A step that is resumed until it is done.
use Rattle.std.proofs.Common.{◌≡◌, ℕ, ◌+◌, ◌<◌, ◌≤◌, false}
use Rattle.sspi_mech.specs.declared.step.Answer.{Answer}
use Rattle.sspi_mech.specs.declared.step.Answer.TheVariants.{Done, Ask, Refused}
use Rattle.sspi_mech.specs.Meaning.{Meaning}

-- how often a step may still be resumed, with this many questions left
abbrev pub rounds_left : Answer → ℕ → ℕ
rounds_left (Done step) left = 0
rounds_left (Ask request) left = left + 1
rounds_left (Refused error) left = 0

-- the state of a step after this many of the allowed questions
abbrev pub Asked : {S C : Type 0} → Meaning S C → Answer → C → ℕ → ℕ → Type 0
Asked c (Done step) m questions allowed = (c.waits m ≡ false) × (questions ≤ allowed)
Asked c (Ask request) m questions allowed = questions + c.left m < allowed
Asked c (Refused error) m questions allowed = questions ≤ allowed
