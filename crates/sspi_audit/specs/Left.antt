-- What an exchange leaves: its turns, and the entries added to its log. Lists are newest first.
use Rattle.std.specs.Prelude.{◌≡◌, List, ◌++◌, reverse}
use Rattle.sspi_credssp.specs.declared.turn.Turn.{Turn}
use Rattle.sspi_delegate.specs.declared.carried.Carried.{Carried}
use Rattle.sspi_audit.specs.Run.{IsShownRun}
use Rattle.sspi_audit.specs.Shown.{ShownRun}

-- the entries added to this log are, with these turns, shown right
pub record LeavesShown (base log : List Carried) (turns : List Turn) : Type 0 where
  pub added : List Carried
  pub parts : log ≡ added ++ base
  pub shown : ShownRun turns (reverse added)

-- the entries added to this log are, with these turns, shown as a run
pub record LeavesRun (base log : List Carried) (turns : List Turn) : Type 0 where
  pub added : List Carried
  pub parts : log ≡ added ++ base
  pub shown : IsShownRun turns (reverse added)
