-- What follows from the definition of scenarios.
use Rattle.std.proofs.Common.{◌≡◌, ℕ, ◌+◌, ◌<◌, arith, Bool, true, false, List, [], ◌∷◌, ◌++◌, length, Option, Some, None, Result, Ok}
use Rattle.std.proofs.Common.{Err, refl, ap, sym, ◌∙◌}
use Rattle.std.specs.Prelude.{if◌then◌else◌, map}
use Rattle.std.specs.Option.{option_map}
use Rattle.std.specs.List.{filter_map, cons_option, enumerate_from, list_any, slice_split, onto_first}
use Rattle.std.proofs.lemmas.Bool.{or_parts}
use Rattle.std.proofs.lemmas.List.{append_assoc, append-nil}
use Rattle.std.proofs.lemmas.List.Splits.{slice_split-cons_yes, slice_split-cons_no, length-slice_split}
use Rattle.sspi_scenario.specs.declared.purpose.Purpose.{Purpose}
use Rattle.sspi_scenario.specs.declared.scenario.Scenario.{Scenario}
use Rattle.sspi_scenario.specs.Lines.{lines_of, is_line_feed, is_skipped}
use Rattle.sspi_scenario.specs.Faults.{Line, Told, telling, broken, judged, numbered, line_told, lines_from, keys_of, first_fault}
use Rattle.sspi_scenario.specs.Faults.{told_by, told_in}
use Rattle.sspi_scenario.specs.Keys.{is_excluded}
use Rattle.sspi_scenario.specs.Scenario.{decided, completed, is_readable, scenario_of_lines, scenario_of}

-- a text without LF before an LF is a line of its own
split-front : (p : ℕ → Bool) (xs : List ℕ) (y : ℕ) (ys : List ℕ) → list_any p xs ≡ false → p y ≡ true
    → slice_split p (xs ++ y ∷ ys) ≡ xs ∷ slice_split p ys
split-front p [] y ys none at = slice_split-cons_yes p y ys at
split-front p (x ∷ xs) y ys none at =
    let parts = or_parts (p x) (list_any p xs) none in
    slice_split-cons_no p x (xs ++ y ∷ ys) parts.0 ∙ ap (onto_first x) (split-front p xs y ys parts.1 at)

onto-append : (x : ℕ) (parts more : List (List ℕ)) → 0 < length parts → onto_first x (parts ++ more) ≡ onto_first x parts ++ more
onto-append x [] more some = absurd (omega (arith, some))
onto-append x (part ∷ parts) more some = refl

split-append-cons : (p : ℕ → Bool) (x : ℕ) (xs : List ℕ) (y : ℕ) (ys : List ℕ) (b : Bool) → p x ≡ b
    → slice_split p (xs ++ y ∷ ys) ≡ slice_split p xs ++ slice_split p ys
    → slice_split p (x ∷ (xs ++ y ∷ ys)) ≡ slice_split p (x ∷ xs) ++ slice_split p ys
split-append-cons p x xs y ys true h e =
    slice_split-cons_yes p x (xs ++ y ∷ ys) h ∙ (ap (λ (parts : List (List ℕ)). [] ∷ parts) e ∙ ap
    (λ (parts : List (List ℕ)). parts ++ slice_split p ys) (sym (slice_split-cons_yes p x xs h)))
split-append-cons p x xs y ys false h e =
    let some : 0 < length (slice_split p xs) = omega (arith, length-slice_split p xs) in
    slice_split-cons_no p x (xs ++ y ∷ ys) h
    ∙ (ap (onto_first x) e
    ∙ (onto-append x (slice_split p xs) (slice_split p ys) some
    ∙ ap (λ (parts : List (List ℕ)). parts ++ slice_split p ys) (sym (slice_split-cons_no p x xs h))))

-- an LF ends a line
split-append : (p : ℕ → Bool) (xs : List ℕ) (y : ℕ) (ys : List ℕ) → p y ≡ true →
    slice_split p (xs ++ y ∷ ys) ≡ slice_split p xs ++ slice_split p ys
split-append p [] y ys at = slice_split-cons_yes p y ys at
split-append p (x ∷ xs) y ys at = split-append-cons p x xs y ys (p x) refl (split-append p xs y ys at)

-- a line with the next number
abbrev later_line : Line → Line
later_line (telling number told) = telling (number + 1) told
later_line (broken number) = broken (number + 1)

judged-later : (number : ℕ) (told : Option Told) → judged (number + 1) told ≡ later_line (judged number told)
judged-later number None = refl
judged-later number (Some told) = refl

numbered-at : (number : ℕ) (skip : Bool) (told : Option Told)
    → (if skip then None else Some (judged (number + 1) told)) ≡ option_map later_line (if skip then None else Some (judged number told))
numbered-at number true told = refl
numbered-at number false told = ap Some (judged-later number told)

cons-map : (o : Option Line) (lines : List Line) → cons_option (option_map later_line o) (map later_line lines) ≡ map later_line
    (cons_option o lines)
cons-map None lines = refl
cons-map (Some line) lines = refl

lines-later : (purpose : Purpose) (number : ℕ) (lines : List (List ℕ)) → lines_from purpose (number + 1) lines ≡ map later_line
    (lines_from purpose number lines)
unfolding lines_from
lines-later purpose number [] = refl
lines-later purpose number (line ∷ lines) =
    (λ i. cons_option (numbered-at number (is_skipped line) (line_told purpose line) i) (lines-later purpose (number + 1) lines i))
    ∙ cons-map (numbered purpose (number, line)) (filter_map (numbered purpose) (enumerate_from (number + 1) lines))

fault-barred : (earlier : List Told) (number : ℕ) (told : Told) (lines : List Line) (b : Bool)
    → first_fault (earlier ++ told ∷ []) (map later_line lines) ≡ option_map (λ n. n + 1) (first_fault (earlier ++ told ∷ []) lines)
    → (if b then Some (number + 1) else first_fault (earlier ++ told ∷ []) (map later_line lines))
    ≡ option_map (λ n. n + 1) (if b then Some number else first_fault (earlier ++ told ∷ []) lines)
fault-barred earlier number told lines true e = refl
fault-barred earlier number told lines false e = e

fault-later : (earlier : List Told) (lines : List Line) → first_fault earlier (map later_line lines) ≡ option_map (λ n. n + 1)
    (first_fault earlier lines)
unfolding first_fault
fault-later earlier [] = refl
fault-later earlier (broken number ∷ lines) = refl
fault-later earlier (telling number told ∷ lines) =
    fault-barred earlier number told lines (is_excluded (keys_of earlier) told.key) (fault-later (earlier ++ told ∷ []) lines)

settings-later : (lines : List Line) → told_in (map later_line lines) ≡ told_in lines
unfolding told_in
settings-later [] = refl
settings-later (broken number ∷ lines) = settings-later lines
settings-later (telling number told ∷ lines) = ap (λ (rest : List Told). told ∷ rest) (settings-later lines)

scenario-later : (purpose : Purpose) (lines : List Line) → scenario_of_lines purpose (map later_line lines) ≡ decided (option_map (λ n. n + 1) (first_fault [] lines))
    (completed purpose (told_in lines))
unfolding scenario_of_lines
scenario-later purpose lines = λ i. decided (fault-later [] lines i) (completed purpose (settings-later lines i))

decided-ok : (fault : Option ℕ) (found : Option Scenario) (scenario : Scenario) → decided fault found ≡ Ok scenario → fault ≡ None
decided-ok None found scenario e = refl
decided-ok (Some n) found scenario e = absurd cc

decided-fault : (fault : Option ℕ) (found : Option Scenario) (n : ℕ) → decided fault found ≡ Err n → 0 < n → fault ≡ Some n
decided-fault (Some m) found n e some = let same : m ≡ n = cc in ap Some same
decided-fault None (Some scenario) n e some = absurd cc
decided-fault None None n e some = let same : 0 ≡ n = cc in absurd (omega (arith, same, some))

err-other : (n : ℕ) → 0 < n → ◌≡◌ {A = Result Scenario ℕ} (Err n) (Err 0) → ⊥
err-other n some e = let same : n ≡ 0 = cc in omega (arith, same, some)

readable-lines : (purpose : Purpose) (text : List ℕ) → is_readable text ≡ true → scenario_of purpose text ≡ scenario_of_lines purpose
    (lines_from purpose 1 (lines_of text))
unfolding scenario_of
readable-lines purpose text e = rw e refl

unread : (purpose : Purpose) (text : List ℕ) → is_readable text ≡ false → scenario_of purpose text ≡ Err 0
unfolding scenario_of
unread purpose text e = rw e refl

readable-by : (purpose : Purpose) (text : List ℕ) (r : Result Scenario ℕ) → (r ≡ Err 0 → ⊥) → scenario_of purpose text ≡ r →
    (b : Bool) → is_readable text ≡ b →
    is_readable text ≡ true
readable-by purpose text r other e true h = h
readable-by purpose text r other e false h = absurd (other (sym e ∙ unread purpose text h))

module _ (purpose : Purpose) (line text : List ℕ) (skip : is_skipped line ≡ true) (within : list_any is_line_feed line ≡ false)
    (readable : is_readable (line ++ 10 ∷ text) ≡ true) where
  lines-skipped : lines_from purpose 1 (line ∷ lines_of text) ≡ lines_from purpose (1 + 1) (lines_of text)
  unfolding lines_from
  lines-skipped = rw skip refl

  skip-lines : lines_from purpose 1 (lines_of (line ++ 10 ∷ text)) ≡ map later_line (lines_from purpose 1 (lines_of text))
  skip-lines = ap (lines_from purpose 1) (split-front is_line_feed line 10 text within refl)
      ∙ (lines-skipped ∙ lines-later purpose 1 (lines_of text))

  skip-scenario : scenario_of purpose (line ++ 10 ∷ text)
      ≡ decided (option_map (λ n. n + 1) (first_fault [] (lines_from purpose 1 (lines_of text))))
      (completed purpose (told_in (lines_from purpose 1 (lines_of text))))
  skip-scenario = readable-lines purpose (line ++ 10 ∷ text) readable ∙
      (ap (scenario_of_lines purpose) skip-lines ∙ scenario-later purpose (lines_from purpose 1 (lines_of text)))

  pub skip-ok : (scenario : Scenario) → scenario_of purpose text ≡ Ok scenario → scenario_of purpose (line ++ 10 ∷ text) ≡ Ok scenario
  unfolding scenario_of_lines
  skip-ok scenario e =
      let whole = sym (readable-lines purpose text (readable-by purpose text (Ok scenario) (λ (h : Ok scenario ≡ Err 0). absurd cc) e
      (is_readable text) refl)) ∙ e in
      let none = decided-ok (first_fault [] (lines_from purpose 1 (lines_of text)))
      (completed purpose (told_in (lines_from purpose 1 (lines_of text)))) scenario whole in
      skip-scenario
      ∙ (ap (λ (f : Option ℕ). decided (option_map (λ n. n + 1) f) (completed purpose (told_in (lines_from purpose 1 (lines_of text))))) none
      ∙ (ap (λ (f : Option ℕ). decided f (completed purpose (told_in (lines_from purpose 1 (lines_of text))))) (sym none) ∙ whole))

  pub skip-fault : (n : ℕ) → 0 < n → scenario_of purpose text ≡ Err n → scenario_of purpose (line ++ 10 ∷ text) ≡ Err (n + 1)
  unfolding scenario_of_lines
  skip-fault n some e =
      let other = err-other n some in
      let whole = sym (readable-lines purpose text (readable-by purpose text (Err n) other e (is_readable text) refl)) ∙ e in
      let fault = decided-fault (first_fault [] (lines_from purpose 1 (lines_of text)))
      (completed purpose (told_in (lines_from purpose 1 (lines_of text)))) n whole some in
      skip-scenario
      ∙ ap (λ (f : Option ℕ). decided (option_map (λ n. n + 1) f) (completed purpose (told_in (lines_from purpose 1 (lines_of text))))) fault

cons-append : (o : Option Line) (lines more : List Line) → cons_option o (lines ++ more) ≡ cons_option o lines ++ more
cons-append None lines more = refl
cons-append (Some line) lines more = refl

lines-append : (purpose : Purpose) (number : ℕ) (lines more : List (List ℕ)) → (rest : List Line) ×
    (lines_from purpose number (lines ++ more) ≡ lines_from purpose number lines ++ rest)
unfolding lines_from
lines-append purpose number [] more = (filter_map (numbered purpose) (enumerate_from number more), refl)
lines-append purpose number (line ∷ lines) more =
    let tail = lines-append purpose (number + 1) lines more in (
      tail.0,
      ap (cons_option (numbered purpose (number, line))) tail.1 ∙ cons-append (numbered purpose (number, line))
          (filter_map (numbered purpose) (enumerate_from (number + 1) lines)) tail.0,
    )

fault-kept-at : (b : Bool) (number n : ℕ) (a c : Option ℕ) → (a ≡ Some n → c ≡ Some n) → (if b then Some number else a) ≡ Some n →
    (if b then Some number else c) ≡ Some n
fault-kept-at true number n a c more e = e
fault-kept-at false number n a c more e = more e

fault-kept : (earlier : List Told) (lines rest : List Line) (n : ℕ) → first_fault earlier lines ≡ Some n →
    first_fault earlier (lines ++ rest) ≡ Some n
unfolding first_fault
fault-kept earlier [] rest n e = absurd cc
fault-kept earlier (broken number ∷ lines) rest n e = e
fault-kept earlier (telling number told ∷ lines) rest n e =
    fault-kept-at (is_excluded (keys_of earlier) told.key) number n (first_fault (earlier ++ told ∷ []) lines)
    (first_fault (earlier ++ told ∷ []) (lines ++ rest))
    (fault-kept (earlier ++ told ∷ []) lines rest n) e

pub fault-stays : (purpose : Purpose) (text more : List ℕ) (n : ℕ) → 0 < n → scenario_of purpose text ≡ Err n →
    is_readable (text ++ 10 ∷ more) ≡ true →
    scenario_of purpose (text ++ 10 ∷ more) ≡ Err n
unfolding scenario_of_lines
fault-stays purpose text more n some e readable =
    let other = err-other n some in
    let whole = sym (readable-lines purpose text (readable-by purpose text (Err n) other e (is_readable text) refl)) ∙ e in
    let fault = decided-fault (first_fault [] (lines_from purpose 1 (lines_of text)))
    (completed purpose (told_in (lines_from purpose 1 (lines_of text)))) n whole some in
    let both = lines-append purpose 1 (lines_of text) (lines_of more) in
    let all = ap (lines_from purpose 1) (split-append is_line_feed text 10 more refl) ∙ both.1 in
    readable-lines purpose (text ++ 10 ∷ more) readable
    ∙ (ap (scenario_of_lines purpose) all
    ∙ ap (λ (f : Option ℕ). decided f (completed purpose (told_in (lines_from purpose 1 (lines_of text) ++ both.0))))
    (fault-kept [] (lines_from purpose 1 (lines_of text)) both.0 n fault))

-- no setting is excluded by earlier ones
bar-false : (b : Bool) (number : ℕ) (rest : Option ℕ) → (if b then Some number else rest) ≡ None → (b ≡ false) × (rest ≡ None)
bar-false true number rest e = absurd cc
bar-false false number rest e = (refl, e)

apart-in : (earlier : List Told) (lines : List Line) (before : List Told) (told : Told) (after : List Told)
    → first_fault earlier lines ≡ None → told_in lines ≡ before ++ told ∷ after → is_excluded (keys_of (earlier ++ before)) told.key ≡ false
unfolding first_fault told_in
apart-in earlier [] [] told after none e = absurd cc
apart-in earlier [] (x ∷ before) told after none e = absurd cc
apart-in earlier (broken number ∷ lines) before told after none e = absurd cc
apart-in earlier (telling number first ∷ lines) [] told after none e =
    let same : first ≡ told = cc in
    let free = (bar-false (is_excluded (keys_of earlier) first.key) number (first_fault (earlier ++ first ∷ []) lines) none).0 in
    rw append-nil (ap (λ (t : Told). is_excluded (keys_of earlier) t.key) (sym same) ∙ free)
apart-in earlier (telling number first ∷ lines) (x ∷ before) told after none e =
    let same : first ≡ x = cc in
    let tail : filter_map told_by lines ≡ before ++ told ∷ after = cc in
    let rest = (bar-false (is_excluded (keys_of earlier) first.key) number (first_fault (earlier ++ first ∷ []) lines) none).1 in
    let inner = apart-in (earlier ++ first ∷ []) lines before told after rest tail in
    ap (λ (t : Told). is_excluded (keys_of (earlier ++ t ∷ before)) told.key) (sym same) ∙ rw append_assoc at inner

pub apart : (purpose : Purpose) (text : List ℕ) (scenario : Scenario) (before : List Told) (told : Told) (after : List Told)
    → scenario_of purpose text ≡ Ok scenario → told_in (lines_from purpose 1 (lines_of text)) ≡ before ++ told ∷ after →
    is_excluded (keys_of before) told.key ≡ false
unfolding scenario_of_lines
apart purpose text scenario before told after e settings =
    let whole = sym (readable-lines purpose text (readable-by purpose text (Ok scenario) (λ (h : Ok scenario ≡ Err 0). absurd cc) e
    (is_readable text) refl)) ∙ e in
    let none = decided-ok (first_fault [] (lines_from purpose 1 (lines_of text)))
    (completed purpose (told_in (lines_from purpose 1 (lines_of text)))) scenario whole in
    apart-in [] (lines_from purpose 1 (lines_of text)) before told after none settings

decided-some : (fault : Option ℕ) (found : Option Scenario) (scenario : Scenario) → decided fault found ≡ Ok scenario →
    found ≡ Some scenario
decided-some None (Some made) scenario e = let same : made ≡ scenario = cc in ap Some same
decided-some None None scenario e = absurd cc
decided-some (Some n) found scenario e = absurd cc

-- a text that is a scenario is readable, and all its lines make that scenario
pub told-whole : (purpose : Purpose) (text : List ℕ) (scenario : Scenario) → scenario_of purpose text ≡ Ok scenario →
    (is_readable text ≡ true) × (completed purpose (told_in (lines_from purpose 1 (lines_of text))) ≡ Some scenario)
unfolding scenario_of_lines
told-whole purpose text scenario e =
    let readable = readable-by purpose text (Ok scenario) (λ (h : Ok scenario ≡ Err 0). absurd cc) e (is_readable text) refl in
    let whole = sym (readable-lines purpose text readable) ∙ e in (
      readable,
      decided-some (first_fault [] (lines_from purpose 1 (lines_of text)))
          (completed purpose (told_in (lines_from purpose 1 (lines_of text)))) scenario whole,
    )
