use Rattle.std.proofs.Common.{refl, sym, ap, ◌∙◌, subst}
use Rattle.std.proofs.lemmas.Bool.{eqb-true}
use Rattle.sspi_names.specs.Name.{new_name}
use Rattle.sspi_names.specs.Named.{IsNamed}
use Rattle.sspi_names.proofs.New.{bare_name, text_or_nil}
use Rattle.sspi_names.proofs.username.Username.new.Goals as goal

pub returns-then-is_empty : goal.returns-then-is_empty
returns-then-is_empty c =
    let domain = ap (λ x. x.now) c.unwrap_or-domain.ensures ∙ text_or_nil c.args.domain_name _ refl in
    let none = bare_name c.args.account_name.now c.unwrap_or-domain.result.now (eqb-true _ _ (sym c.if-is_empty.ensures)) in
    subst (λ d. IsNamed c.parse.result (new_name c.args.account_name.now d)) domain
    (subst (IsNamed c.parse.result) (sym none) c.parse.ensures)

pub returns-else-is_empty : goal.returns-else-is_empty
returns-else-is_empty c =
    let domain = ap (λ x. x.now) c.unwrap_or-domain.ensures ∙ text_or_nil c.args.domain_name _ refl in
    subst (λ d. IsNamed c.qualified.result (new_name c.args.account_name.now d)) domain c.qualified.ensures
