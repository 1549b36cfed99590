-- What the remaining lines decide, after lines that gave some settings.
use Rattle.std.proofs.Common.{◌≡◌, ℕ, ◌+◌, ◌<◌, ◌≤◌, arith, Bool, true, false, List, [], ◌∷◌, ◌++◌, length, Option, Some, None, Result}
use Rattle.std.proofs.Common.{Ok, Err, refl, ap, sym, subst, ◌∙◌}
use Rattle.std.specs.Prelude.{if◌then◌else◌, IfSome, option_copied}
use Rattle.std.specs.Borrow.{Bor}
use Rattle.std.specs.List.{cons_option}
use Rattle.std.proofs.lemmas.List.{append-nil, append_assoc}
use Rattle.sspi_scenario.specs.declared.purpose.Purpose.{Purpose}
use Rattle.sspi_scenario.specs.declared.draft.Draft.{Draft}
use Rattle.sspi_scenario.specs.declared.scenario.Scenario.{Scenario}
use Rattle.sspi_scenario.specs.declared.scenario.ScenarioError.{ScenarioError}
use Rattle.sspi_scenario.specs.declared.scenario.ScenarioError.TheVariants as error
use Rattle.sspi_scenario.specs.Lines.{is_skipped, lines_of}
use Rattle.sspi_scenario.specs.Faults.{Line, Told, telling, broken, judged, line_told, lines_from, keys_of, first_fault, told_in}
use Rattle.sspi_scenario.specs.Keys.{is_excluded}
use Rattle.sspi_scenario.specs.Scenario.{decided, completed, scenario_of_lines, scenario_of, Parses, is_readable}
use Rattle.sspi_scenario.specs.Drafts.{draft_of, with_line, with_told, noted, draft_completed, Gathers, Completes}
use Rattle.sspi_scenario.proofs.More.{draft-more, draft-excluded, draft-ends}

-- how much of a text is left
abbrev pub left : Option (List ℕ) → ℕ
left None = 0
left (Some rest) = length rest + 1

-- what lines decide that follow those that said `earlier`
unfoldable pub outcome : Purpose → List Told → List Line → Result Scenario ℕ
outcome purpose earlier lines = decided (first_fault earlier lines) (completed purpose (earlier ++ told_in lines))

pub outcome-start : (purpose : Purpose) (lines : List Line) → outcome purpose [] lines ≡ scenario_of_lines purpose lines
unfolding outcome scenario_of_lines
outcome-start purpose lines = refl

pub outcome-end : (purpose : Purpose) (earlier : List Told) (number : ℕ) → outcome purpose earlier (lines_from purpose number []) ≡ decided None
    (draft_completed purpose (draft_of earlier))
unfolding outcome lines_from told_in first_fault
outcome-end purpose earlier number = ap (λ (lines : List Told). decided None (completed purpose lines)) (append-nil earlier) ∙ ap (decided None)
    (draft-ends purpose earlier)

outcome-broken : (purpose : Purpose) (earlier : List Told) (number : ℕ) (lines : List Line) → outcome purpose earlier (broken number ∷ lines) ≡ Err number
unfolding outcome first_fault
outcome-broken purpose earlier number lines = refl

outcome-excluded : (purpose : Purpose) (earlier : List Told) (number : ℕ) (told : Told) (lines : List Line) → is_excluded (keys_of earlier) told.key ≡ true
    → outcome purpose earlier (telling number told ∷ lines) ≡ Err number
unfolding outcome first_fault
outcome-excluded purpose earlier number told lines h = rw h refl

outcome-told : (purpose : Purpose) (earlier : List Told) (number : ℕ) (told : Told) (lines : List Line) → is_excluded (keys_of earlier) told.key ≡ false
    → outcome purpose earlier (telling number told ∷ lines) ≡ outcome purpose (earlier ++ told ∷ []) lines
unfolding outcome first_fault told_in
outcome-told purpose earlier number told lines h = rw (h, append_assoc) refl

-- what a line does: it is faulty, with its number, or the draft after it is that of further lines
abbrev Step : Purpose → List Told → Option Draft → ℕ → List Line → List Line → Type 0
Step purpose earlier None number lines rest = outcome purpose earlier lines ≡ Err number
Step purpose earlier (Some new) number lines rest = (later : List Told) × (new ≡ draft_of later) × (outcome purpose earlier lines ≡ outcome purpose later rest)

module _ (purpose : Purpose) (earlier : List Told) (number : ℕ) (rest : List Line) where
  step-barred : (told : Told) (b : Bool) → is_excluded (draft_of earlier).seen told.key ≡ b
      → Step purpose earlier (if b then None else Some (record {
        values = told.change (draft_of earlier).values;
        seen = noted (draft_of earlier).seen told.key;
      })) number (telling number told ∷ rest) rest
  step-barred told true e = outcome-excluded purpose earlier number told rest (sym (draft-excluded earlier told.key) ∙ e)
  step-barred told false e = (
    earlier ++ told ∷ [],
    sym (draft-more earlier told),
    outcome-told purpose earlier number told rest
        (sym (draft-excluded earlier told.key) ∙ e),
  )

  step-told : (told : Option Told) → Step purpose earlier (with_told (draft_of earlier) told) number (judged number told ∷ rest) rest
  step-told None = outcome-broken purpose earlier number rest
  step-told (Some told) = step-barred told (is_excluded (draft_of earlier).seen told.key) refl

  step-line : (skipped : Bool) (told : Option Told)
      → Step purpose earlier (if skipped then Some (draft_of earlier) else with_told (draft_of earlier) told) number
      (cons_option (if skipped then None else Some (judged number told)) rest) rest
  step-line true told = (earlier, refl, refl)
  step-line false told = step-told told

pub step : (purpose : Purpose) (earlier : List Told) (number : ℕ) (line : List ℕ) (rest : List (List ℕ))
    → Step purpose earlier (with_line purpose (draft_of earlier) line) number (lines_from purpose number (line ∷ rest))
    (lines_from purpose (number + 1) rest)
unfolding with_line lines_from
step purpose earlier number line rest = step-line purpose earlier number (lines_from purpose (number + 1) rest) (is_skipped line)
    (line_told purpose line)

-- the same for a line that is taken, and for one that is faulty
pub step-taken : (purpose : Purpose) (earlier : List Told) (number : ℕ) (line : List ℕ) (rest : List (List ℕ)) (new : Draft)
    → with_line purpose (draft_of earlier) line ≡ Some new
    → (later : List Told) × (new ≡ draft_of later) × (outcome purpose earlier (lines_from purpose number (line ∷ rest)) ≡ outcome purpose later
    (lines_from purpose (number + 1) rest))
step-taken purpose earlier number line rest new e =
    subst (λ o. Step purpose earlier o number (lines_from purpose number (line ∷ rest)) (lines_from purpose (number + 1) rest)) e
    (step purpose earlier number line rest)

pub step-refused : (purpose : Purpose) (earlier : List Told) (number : ℕ) (line : List ℕ) (rest : List (List ℕ))
    → with_line purpose (draft_of earlier) line ≡ None
    → outcome purpose earlier (lines_from purpose number (line ∷ rest)) ≡ Err number
step-refused purpose earlier number line rest e =
    subst (λ o. Step purpose earlier o number (lines_from purpose number (line ∷ rest)) (lines_from purpose (number + 1) rest)) e
    (step purpose earlier number line rest)

-- the values so far, and that the remaining lines decide what all lines decide
abbrev pub Sofar : (purpose : Purpose) → Draft → ℕ → List (List ℕ) → Result Scenario ℕ → Type 0
Sofar purpose draft number lines all = (earlier : List Told) × (draft ≡ draft_of earlier)
    × (outcome purpose earlier (lines_from purpose number lines) ≡ all)

pub told-start : (purpose : Purpose) (draft : Draft) (lines : List (List ℕ)) → draft ≡ draft_of [] →
    Sofar purpose draft 1 lines (scenario_of_lines purpose (lines_from purpose 1 lines))
told-start purpose draft lines e = ([], e, outcome-start purpose (lines_from purpose 1 lines))

pub told-end : (purpose : Purpose) (draft : Draft) (number : ℕ) (all : Result Scenario ℕ) → Sofar purpose draft number [] all →
    all ≡ decided None (draft_completed purpose draft)
told-end purpose draft number all told =
    sym told.2 ∙ (outcome-end purpose told.0 number ∙ ap (λ (d : Draft). decided None (draft_completed purpose d)) (sym told.1))

module _ (purpose : Purpose) (draft : Draft) (number : ℕ) (all : Result Scenario ℕ) (lines : List (List ℕ)) (line : List ℕ)
    (rest : List (List ℕ))
    (cut : lines ≡ line ∷ rest) where
  pub told-more : (new : Draft) → with_line purpose draft line ≡ Some new → Sofar purpose draft number lines all →
      Sofar purpose new (number + 1) rest all
  told-more new h told =
      let next = step-taken purpose told.0 number line rest new (ap (λ (d : Draft). with_line purpose d line) (sym told.1) ∙ h) in
      (next.0, next.1, sym next.2 ∙ (ap (λ (ls : List (List ℕ)). outcome purpose told.0 (lines_from purpose number ls)) (sym cut) ∙ told.2))

  pub told-fault : with_line purpose draft line ≡ None → Sofar purpose draft number lines all → all ≡ Err number
  told-fault h told =
      sym told.2
      ∙ (ap (λ (ls : List (List ℕ)). outcome purpose told.0 (lines_from purpose number ls)) cut
      ∙ step-refused purpose told.0 number line rest (ap (λ (d : Draft). with_line purpose d line) (sym told.1) ∙ h))

-- a shorter rest
pub left-shorter : (rest : Option (Bor (List ℕ))) (n : ℕ) → IfSome rest (λ r. length r.now < n) → left (option_copied rest) ≤ n
left-shorter None n h = omega arith
left-shorter (Some r) n h = omega (arith, h)

pub unreadable : (purpose : Purpose) (text : List ℕ) → is_readable text ≡ false → scenario_of purpose text ≡ Err 0
unfolding scenario_of
unreadable purpose text e = rw e refl

module _ (purpose : Purpose) (text read : List ℕ) (same : read ≡ text) (readable : is_readable text ≡ true) where
  whole : scenario_of purpose text ≡ scenario_of_lines purpose (lines_from purpose 1 (lines_of read))
  unfolding scenario_of
  whole = rw (same, readable) refl

  pub parsed-fault : (refusal : ScenarioError) → Gathers purpose read (Err refusal) → Parses purpose text (Err refusal)
  parsed-fault (error.Line number) h = whole ∙ h
  parsed-fault error.InsufficientMemory h = tt

  pub parsed : (draft : Draft) (r : Result Scenario ScenarioError) → Gathers purpose read (Ok draft) → Completes r (draft_completed purpose draft) →
      Parses purpose text r
  parsed draft (Ok scenario) h e = whole ∙ (h ∙ ap (decided None) e)
  parsed draft (Err (error.Line number)) h e = whole ∙ (h ∙ (ap (decided None) e.0 ∙ ap Err (sym e.1)))
  parsed draft (Err error.InsufficientMemory) h e = tt
