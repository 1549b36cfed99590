use Rattle.std.proofs.Common.{sym, ap, ◌∙◌, arith}
use Rattle.sspi_names.specs.Name.{has_backslash}
use Rattle.sspi_names.proofs.Parse.{twice_parsed, account_split, qualified_split}
use Rattle.sspi_names.proofs.shape.Shape.split_domain.Goals as goal

pub returns-then-contains_backslash : goal.returns-then-contains_backslash
returns-then-contains_backslash c =
    twice_parsed c.args.value.now c.args.at c.requires.first c.requires.unmixed
    (ap has_backslash (sym c.after-account.ensures) ∙ sym c.contains_backslash.ensures ∙ c.if-contains_backslash.true)

pub returns-then-at-eq0 : goal.returns-then-at-eq0
returns-then-at-eq0 c =
    rw c.after-account.ensures
    (account_split c.args.value.now c.utf8.value c.args.at c.if-at-eq0.true c.requires.first c.requires.unmixed
    (ap has_backslash (sym c.after-account.ensures) ∙ sym c.contains_backslash.ensures ∙ c.if-contains_backslash.false))

pub returns-else-at-eq0 : goal.returns-else-at-eq0
returns-else-at-eq0 c =
    qualified_split c.args.value.now c.utf8.value c.args.at (omega arith) c.requires.first c.requires.unmixed
    (ap has_backslash (sym c.after-account.ensures) ∙ sym c.contains_backslash.ensures ∙ c.if-contains_backslash.false)
