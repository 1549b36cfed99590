use Rattle.std.proofs.Common.{Some, ◌+◌, take, drop, ap, ◌∙◌, refl}
use Rattle.sspi_names.specs.declared.shape.Shape.TheVariants.{Principal, Qualified, Bare}
use Rattle.sspi_names.proofs.Shown.{domain_told}
use Rattle.sspi_names.proofs.username.Username.domain_name.Goals as goal

pub returns-in-Principal : goal.returns-in-Principal
returns-in-Principal c =
    domain_told _ _ (Principal c.in-Principal.at) _ _ c.self.invariant.placed c.self.view_is c.in-Principal.is
    (ap Some (c.after.ensures ∙ ap (drop (c.in-Principal.at + 1)) c.as_str-inner.ensures.value))

pub returns-in-Qualified : goal.returns-in-Qualified
returns-in-Qualified c =
    domain_told _ _ (Qualified c.in-Qualified.at) _ _ c.self.invariant.placed c.self.view_is c.in-Qualified.is
    (ap Some (c.before-in-Qualified.ensures ∙ ap (take c.in-Qualified.at) c.as_str-inner.ensures.value))

pub returns-in-Bare : goal.returns-in-Bare
returns-in-Bare c = domain_told _ _ Bare _ _ c.self.invariant.placed c.self.view_is c.in-Bare.is refl
