-- What it means that a picked NTLM may be used.
use Rattle.std.specs.Prelude.{◌≡◌, Option, None, Some, true}
use Rattle.sspi_negotiate.specs.declared.package_list.PackageListConfig.{PackageListConfig}
use Rattle.sspi_negotiate.specs.declared.pick.Choice.{Choice}
use Rattle.sspi_negotiate.specs.declared.pick.Choice.TheVariants.{MsKerberos, Kerberos, Ntlm}
use Rattle.sspi_negotiate.specs.declared.pick.Picked.{Picked}

abbrev pub OnNtlm : Choice → Type 0 → Type 0
OnNtlm MsKerberos P = Unit {0}
OnNtlm Kerberos P = Unit {0}
OnNtlm Ntlm P = P

abbrev pub IsUsable : PackageListConfig → Option Picked → Type 0
IsUsable packages None = Unit {0}
IsUsable packages (Some p) = OnNtlm p.choice (packages.ntlm ≡ true)
