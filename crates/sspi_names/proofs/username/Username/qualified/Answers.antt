use Rattle.std.proofs.Common.{Some, sym, ap, ◌∙◌}
use Rattle.std.proofs.lemmas.Result.{err_from_is_err_and}
use Rattle.sspi_names.specs.Name.{down_level}
use Rattle.sspi_names.proofs.New.{qualified_name, mixed_account, mixed_domain}
use Rattle.sspi_names.proofs.username.Username.qualified.Goals as goal

pub returns-then-contains_separator : goal.returns-then-contains_separator
returns-then-contains_separator c = mixed_account _ _ c.requires (sym c.if-contains_separator.ensures)

pub returns-then-contains_separator-2 : goal.returns-then-contains_separator-2
returns-then-contains_separator-2 c = mixed_domain _ _ c.requires (sym c.if-contains_separator.ensures)
    (sym c.if-contains_separator-2.ensures)

pub returns-in_err-joined : goal.returns-in_err-joined
returns-in_err-joined c =
    let p = err_from_is_err_and c.from_residual.result c.from_residual.ensures.1 in
    rw (p.1, p.2) (
      down_level c.args.account.now c.args.domain.now,
      qualified_name _ _ c.requires (sym c.if-contains_separator.ensures)
          (sym c.if-contains_separator-2.ensures),
    )

pub returns : goal.returns
returns c =
    qualified_name _ _ c.requires (sym c.if-contains_separator.ensures) (sym c.if-contains_separator-2.ensures)
    ∙ ap Some (sym c.in_ok-joined.ensures)
