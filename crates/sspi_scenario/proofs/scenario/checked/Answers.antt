use Rattle.std.proofs.Common.{length, refl}
use Rattle.std.specs.Str.{is_utf8}
use Rattle.std.proofs.lemmas.Bool.{and_from, and_right, le-leb, false_from_ne_true}
use Rattle.std.proofs.lemmas.Str.{IsUtf8-from_is_utf8, is_utf8-from_IsUtf8}
use Rattle.sspi_scenario.specs.Reading.{text_limit}
use Rattle.sspi_scenario.proofs.scenario.checked.Goals as goal

pub returns-in-Ok-clause-text : goal.returns-in-Ok-clause-text
returns-in-Ok-clause-text c =
    let text = c.args.text.now in (
      c.in-Ok.ensures.cases.0,
      and_from _ (is_utf8 text) (le-leb (length text) text_limit c.if-text-gt-TEXT_LIMIT.false)
          (is_utf8-from_IsUtf8 text c.in-Ok.ensures.cases.1),
    )

pub returns-in-Err-clause-refused : goal.returns-in-Err-clause-refused
returns-in-Err-clause-refused c =
    let text = c.args.text.now in
    (refl, and_right _ (is_utf8 text) (false_from_ne_true (is_utf8 text) (λ e. c.in-Err.ensures.cases.0 (IsUtf8-from_is_utf8 text e))))
