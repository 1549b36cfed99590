use Rattle.std.proofs.Common.{ap, sym, subst}
use Rattle.sspi_negotiate.specs.declared.package_list.PackageListConfig.{PackageListConfig}
use Rattle.sspi_negotiate.specs.Usable.{IsUsable}
use Rattle.sspi_negotiate.proofs.Usable.{pick_usable}
use Rattle.sspi_negotiate.proofs.negotiate.Negotiate.read_list.Goals as goal

pub returns-in-Some-clause-stays : goal.returns-in-Some-clause-stays
returns-in-Some-clause-stays g c = c.keep_list.ensures.stays
    (subst (λ (packages : PackageListConfig). IsUsable packages c.pick-picked.result) (ap (λ v. v.packages) c.self.view_is)
    (subst (IsUsable c.self.inside.packages) (sym c.pick-picked.ensures)
    (pick_usable c.as_slice.result.now c.self.inside.packages c.protocol.result)))
