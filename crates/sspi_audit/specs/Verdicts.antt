-- What the verdict of an auditor means. The recorded turns and log are oldest first.
use Rattle.std.specs.Prelude.{◌≡◌, ℕ, List, length, take, reverse, slice_get, Option, None, Some}
use Rattle.std.specs.Prelude.{true, false}
use Rattle.sspi_credssp.specs.declared.turn.Turn.{Turn}
use Rattle.sspi_delegate.specs.declared.carried.Carried.{Carried}
use Rattle.sspi_audit.specs.declared.verdict.Verdict.{Verdict}
use Rattle.sspi_audit.specs.declared.verdict.Verdict.TheVariants.{Yes, No}
use Rattle.sspi_audit.specs.Shown.{ShownTurn, EachShown, IsCounted, ShownRun}

-- the credentials were sealed in the turn with this number and in no other; or in no turn
abbrev pub SealsOnlyIn : List Turn → Option ℕ → Type 0
SealsOnlyIn turns None = (i : ℕ) (t : Turn) → slice_get turns i ≡ Some t → t.acts.sealed ≡ false
SealsOnlyIn turns (Some place) =
    (t : Turn) × (slice_get turns place ≡ Some t) × (t.acts.sealed ≡ true)
    × ((i : ℕ) (u : Turn) → slice_get turns i ≡ Some u → u.acts.sealed ≡ true → i ≡ place)

-- the turn with this number is not shown right, or there is none and the entries are too many or
-- too few
abbrev pub IsFaulty : List Turn → List Carried → ℕ → Option Turn → Type 0
IsFaulty turns log place (Some t) = ShownTurn log (reverse (take place turns)) t → ⊥
IsFaulty turns log place None = (place ≡ length turns) × (IsCounted turns log → ⊥)

-- the first fault: all turns before it are shown right
pub record IsFirstFault (turns : List Turn) (log : List Carried) (place : ℕ) : Type 0 where
  pub before : EachShown log (reverse (take place turns))
  pub at : IsFaulty turns log place (slice_get turns place)

abbrev pub Judges : List Turn → List Carried → Verdict → Type 0
Judges turns log (Yes sealing) = ShownRun (reverse turns) log × SealsOnlyIn turns sealing
Judges turns log (No place) = IsFirstFault turns log place × (ShownRun (reverse turns) log → ⊥)
