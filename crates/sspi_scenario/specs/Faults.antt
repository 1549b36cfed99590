-- The lines that are not skipped, and the first faulty one among them.
use Rattle.std.specs.Prelude.{ℕ, List, [], ◌∷◌, ◌++◌, Option, Some, None, map, if◌then◌else◌}
use Rattle.std.specs.List.{filter_map, enumerate_from}
use Rattle.sspi_scenario.specs.declared.key.Key.{Key}
use Rattle.sspi_scenario.specs.declared.purpose.Purpose.{Purpose}
use Rattle.sspi_scenario.specs.declared.values.Values.{Values}
use Rattle.sspi_scenario.specs.Keys.{is_excluded}
use Rattle.sspi_scenario.specs.Lines.{is_skipped, before_space, after_space}
use Rattle.sspi_scenario.specs.Optional.{◌>>=◌}
use Rattle.sspi_scenario.specs.Purposes.{key_for}
use Rattle.sspi_scenario.specs.Table.{row}

-- what a line says: its key, and how its value changes the values of the earlier lines
pub record Told : Type 0 where
  pub key : Key
  pub change : Values → Values

-- the key up to the first space and the value after it; none if the key is unknown or not for this
-- purpose, or the value is bad
unfoldable pub line_told : Purpose → List ℕ → Option Told
line_told purpose line = do
  k ← key_for purpose (before_space line)
  change ← (row k).value (after_space line)
  Some (record { key = k; change = change })

-- a line with its number: what it says, or that its key or value is bad
pub data Line : Type 0 where
  telling : ℕ → Told → Line
  broken : ℕ → Line

abbrev pub judged : ℕ → Option Told → Line
judged number (Some told) = telling number told
judged number None = broken number

abbrev pub numbered : Purpose → ℕ × List ℕ → Option Line
numbered purpose line = if is_skipped line.1 then None
    else Some (judged line.0 (line_told purpose line.1))

-- the lines of a text, numbered from this number; empty lines and comments count but are left out
unfoldable pub lines_from : Purpose → ℕ → List (List ℕ) → List Line
lines_from purpose number lines = filter_map (numbered purpose) (enumerate_from number lines)

abbrev pub keys_of : List Told → List Key
keys_of lines = map (λ told. told.key) lines

-- the number of the first line that is broken or that earlier lines exclude
unfoldable pub first_fault : List Told → List Line → Option ℕ
first_fault earlier [] = None
first_fault earlier (broken number ∷ lines) = Some number
first_fault earlier (telling number told ∷ lines) =
    if is_excluded (keys_of earlier) told.key then Some number
    else first_fault (earlier ++ told ∷ []) lines

abbrev pub told_by : Line → Option Told
told_by (telling number told) = Some told
told_by (broken number) = None

-- what the lines say
unfoldable pub told_in : List Line → List Told
told_in lines = filter_map told_by lines
