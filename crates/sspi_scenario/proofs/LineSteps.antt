-- How one line changes the draft so far.
use Rattle.std.proofs.Common.{◌≡◌, ℕ, true, false, List, Option, Some, None, Ok, Err, refl, ap, ◌∙◌}
use Rattle.std.specs.Option.{option_map}
use Rattle.sspi_scenario.specs.declared.purpose.Purpose.{Purpose}
use Rattle.sspi_scenario.specs.declared.draft.Draft.{Draft}
use Rattle.sspi_scenario.specs.declared.error.LineError.{LineError}
use Rattle.sspi_scenario.specs.declared.error.LineError.TheVariants.{Fault, InsufficientMemory}
use Rattle.sspi_scenario.specs.declared.key.Key.{Key}
use Rattle.sspi_scenario.specs.declared.values.Values.{Values}
use Rattle.sspi_scenario.specs.Drafts.{AsksMemory, with_line, with_told, noted, Takes}
use Rattle.sspi_scenario.specs.Faults.{Told, line_told}
use Rattle.sspi_scenario.specs.Keys.{is_excluded}
use Rattle.sspi_scenario.specs.Lines.{is_skipped, before_space, after_space}
use Rattle.sspi_scenario.specs.Purposes.{key_for}
use Rattle.sspi_scenario.specs.Reads.{Puts}
use Rattle.sspi_scenario.specs.Table.{row}

abbrev told_as : Key → (Values → Values) → Told
told_as k change = record { key = k; change = change }

line-unknown : (purpose : Purpose) (line : List ℕ) → key_for purpose (before_space line) ≡ None → line_told purpose line ≡ None
unfolding line_told
line-unknown purpose line e = rw e refl

line-known : (purpose : Purpose) (line : List ℕ) (k : Key) (o : Option (Values → Values)) → key_for purpose (before_space line) ≡ Some k →
    (row k).value (after_space line) ≡ o
    → line_told purpose line ≡ option_map (told_as k) o
unfolding line_told
line-known purpose line k None e v = rw (e, v) refl
line-known purpose line k (Some change) e v = rw (e, v) refl

module _ (purpose : Purpose) (draft : Draft) (line : List ℕ) where
  pub skipped : is_skipped line ≡ true → with_line purpose draft line ≡ Some draft
  unfolding with_line
  skipped e = rw e refl

  told-line : is_skipped line ≡ false → (o : Option Told) → line_told purpose line ≡ o → with_line purpose draft line ≡ with_told draft o
  unfolding with_line
  told-line s o e = rw (s, e) refl

  pub unknown : is_skipped line ≡ false → key_for purpose (before_space line) ≡ None → with_line purpose draft line ≡ None
  unknown s e = told-line s None (line-unknown purpose line e)

  module _ (k : Key) (s : is_skipped line ≡ false) (named : key_for purpose (before_space line) ≡ Some k) where
    barred-by : (o : Option (Values → Values)) → is_excluded draft.seen k ≡ true → with_told draft (option_map (told_as k) o) ≡ None
    barred-by None h = refl
    barred-by (Some change) h = rw h refl

    pub barred : is_excluded draft.seen k ≡ true → with_line purpose draft line ≡ None
    barred h =
        let value = (row k).value (after_space line) in
        told-line s (option_map (told_as k) value) (line-known purpose line k value named refl) ∙ barred-by value h

    taken-by : (o : Option (Values → Values)) (new : Values) → is_excluded draft.seen k ≡ false →
        option_map (λ (c : Values → Values). c draft.values) o ≡ Some new
        → with_told draft (option_map (told_as k) o) ≡ Some (record { values = new; seen = noted draft.seen k })
    taken-by None new h e = absurd cc
    taken-by (Some change) new h e =
        let is : change draft.values ≡ new = cc in
        rw h (ap (λ (values : Values). Some (record { values = values; seen = noted draft.seen k })) is)

    pub taken : (new : Values) → is_excluded draft.seen k ≡ false → Puts draft.values new (Ok tt) ((row k).value (after_space line))
        → with_line purpose draft line ≡ Some (record { values = new; seen = noted draft.seen k })
    taken new h e =
        let value = (row k).value (after_space line) in
        told-line s (option_map (told_as k) value) (line-known purpose line k value named refl) ∙ taken-by value new h e

    pub lacking : is_excluded draft.seen k ≡ false → AsksMemory purpose draft line
    lacking free = record { key = k; told = s; named = named; free = free }

    pub refused : (new : Draft) (values : Values) (error : LineError) → is_excluded draft.seen k ≡ false →
        Puts draft.values values (Err error) ((row k).value (after_space line))
        → Takes purpose draft new line (Err error)
    refused new values Fault free e = told-line s None (line-known purpose line k None named e)
    refused new values InsufficientMemory free e = lacking free
