-- What the private functions of the parser promise: the draft of the lines so far, and what one
-- more line makes of it.
use Rattle.std.specs.Prelude.{◌≡◌, ℕ, List, [], ◌∷◌, ◌++◌, Option, Some, None, Result, Ok, Err}
use Rattle.std.specs.Prelude.{false, fold, if◌then◌else◌}
use Rattle.sspi_scenario.specs.declared.draft.Draft.{Draft}
use Rattle.sspi_scenario.specs.declared.error.LineError.{LineError}
use Rattle.sspi_scenario.specs.declared.error.LineError.TheVariants as line
use Rattle.sspi_scenario.specs.declared.key.Key.{Key}
use Rattle.sspi_scenario.specs.declared.purpose.Purpose.{Purpose}
use Rattle.sspi_scenario.specs.declared.scenario.Scenario.{Scenario}
use Rattle.sspi_scenario.specs.declared.scenario.ScenarioError.{ScenarioError}
use Rattle.sspi_scenario.specs.declared.scenario.ScenarioError.TheVariants as error
use Rattle.sspi_scenario.specs.Faults.{Told, line_told, lines_from, keys_of}
use Rattle.sspi_scenario.specs.Keys.{has, is_excluded}
use Rattle.sspi_scenario.specs.Lines.{before_space, is_skipped, lines_of}
use Rattle.sspi_scenario.specs.Purposes.{key_for}
use Rattle.sspi_scenario.specs.Scenario.{values_of, completed_by, decided, scenario_of_lines}

-- these keys and one more, each once
abbrev pub noted : List Key → Key → List Key
noted keys k = if has keys k then keys else keys ++ k ∷ []

-- the draft of lines
unfoldable pub draft_of : List Told → Draft
draft_of lines = record { values = values_of lines; seen = fold noted [] (keys_of lines) }

abbrev pub with_told : Draft → Option Told → Option Draft
with_told draft None = None
with_told draft (Some told) =
    if is_excluded draft.seen told.key then None
    else Some (record { values = told.change draft.values; seen = noted draft.seen told.key })

-- the draft after one more line, or none if the line is faulty
unfoldable pub with_line : Purpose → Draft → List ℕ → Option Draft
with_line purpose draft line = if is_skipped line then Some draft
    else with_told draft (line_told purpose line)

-- the line needs memory: it is not skipped, and its key belongs to the purpose and is not excluded
-- by an earlier one
pub record AsksMemory (purpose : Purpose) (draft : Draft) (line : List ℕ) : Type 0 where
  pub key : Key
  pub told : is_skipped line ≡ false
  pub named : key_for purpose (before_space line) ≡ Some key
  pub free : is_excluded draft.seen key ≡ false

-- the line is taken exactly so; `Fault` exactly if it is faulty; out of memory only if it needs
-- memory
abbrev pub Takes : Purpose → Draft → Draft → List ℕ → Result (Unit {0}) LineError → Type 0
Takes purpose old new text (Ok done) = with_line purpose old text ≡ Some new
Takes purpose old new text (Err line.Fault) = with_line purpose old text ≡ None
Takes purpose old new text (Err line.InsufficientMemory) = AsksMemory purpose old text

-- the draft's scenario for this purpose, or none if a key that it must have is missing
abbrev pub draft_completed : Purpose → Draft → Option Scenario
draft_completed purpose draft = completed_by purpose draft.seen draft.values

-- exactly that scenario; line 0 exactly if there is none; out of memory is unconstrained
abbrev pub Completes : Result Scenario ScenarioError → Option Scenario → Type 0
Completes (Ok scenario) found = found ≡ Some scenario
Completes (Err (error.Line number)) found = (found ≡ None) × (number ≡ 0)
Completes (Err error.InsufficientMemory) found = Unit {0}

-- the draft of all lines, or the first faulty line
abbrev pub Gathers : Purpose → List ℕ → Result Draft ScenarioError → Type 0
Gathers purpose text (Ok draft) = scenario_of_lines purpose
    (lines_from purpose 1 (lines_of text)) ≡ decided None (draft_completed purpose draft)
Gathers purpose text (Err (error.Line number)) =
    scenario_of_lines purpose (lines_from purpose 1 (lines_of text)) ≡ Err number
Gathers purpose text (Err error.InsufficientMemory) = Unit {0}
