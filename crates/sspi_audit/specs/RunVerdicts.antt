-- What the verdict of an auditor of runs means. The recorded turns and log are oldest first.
use Rattle.std.specs.Prelude.{◌≡◌, ℕ, List, length, take, reverse, slice_get, Option, None, Some}
use Rattle.sspi_credssp.specs.declared.turn.Turn.{Turn}
use Rattle.sspi_delegate.specs.declared.carried.Carried.{Carried}
use Rattle.sspi_audit.specs.declared.verdict.Verdict.{Verdict}
use Rattle.sspi_audit.specs.declared.verdict.Verdict.TheVariants.{Yes, No}
use Rattle.sspi_audit.specs.Run.{RunTurn, EachRunTurn, LogEnds, IsShownRun}
use Rattle.sspi_audit.specs.Verdicts.{SealsOnlyIn}

-- the turn with this number is not one of a run; or there is none, and the log does not end as that
-- of a run
abbrev pub IsFaultyInRun : List Turn → List Carried → ℕ → Option Turn → Type 0
IsFaultyInRun turns log place (Some t) = RunTurn log (reverse (take place turns)) t → ⊥
IsFaultyInRun turns log place None = (place ≡ length turns) × (LogEnds (reverse turns) log → ⊥)

-- the first fault: all turns before it may be those of a run
pub record IsFirstFaultInRun (turns : List Turn) (log : List Carried) (place : ℕ) : Type 0 where
  pub before : EachRunTurn log (reverse (take place turns))
  pub at : IsFaultyInRun turns log place (slice_get turns place)

abbrev pub JudgesRun : List Turn → List Carried → Verdict → Type 0
JudgesRun turns log (Yes sealing) = IsShownRun (reverse turns) log × SealsOnlyIn turns sealing
JudgesRun turns log (No place) = IsFirstFaultInRun turns log place ×
    (IsShownRun (reverse turns) log → ⊥)
