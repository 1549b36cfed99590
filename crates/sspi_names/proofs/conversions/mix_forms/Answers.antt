use Rattle.std.proofs.Common.{sym, ◌∙◌}
use Rattle.std.proofs.lemmas.Bool.{eqb-true}
use Rattle.sspi_names.proofs.Counted.{bare_mixed, qualified_mixed, first_has, second_has, not_empty}
use Rattle.sspi_names.proofs.conversions.mix_forms.Goals as goal

pub returns-then-is_empty : goal.returns-then-is_empty
returns-then-is_empty c =
    c.mixes_forms.ensures ∙ bare_mixed c.args.user.now c.args.domain.now (eqb-true _ _ (sym c.if-is_empty.ensures.empty))

pub returns-then-has_separator : goal.returns-then-has_separator
returns-then-has_separator c =
    c.has_separator.ensures
    ∙ first_has _ _ _
    (qualified_mixed c.args.user.now c.args.domain.now c.is_empty.ensures.well_formed (not_empty _ (sym c.if-is_empty.ensures.empty)))
    (sym c.has_separator.ensures ∙ c.if-has_separator.true)

pub returns-else-has_separator : goal.returns-else-has_separator
returns-else-has_separator c =
    c.has_separator-else-has_separator.ensures
    ∙ second_has _ _ _
    (qualified_mixed c.args.user.now c.args.domain.now c.is_empty.ensures.well_formed (not_empty _ (sym c.if-is_empty.ensures.empty)))
    (sym c.has_separator.ensures ∙ c.if-has_separator.false)
