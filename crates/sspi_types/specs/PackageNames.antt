-- The name of each package.
use Rattle.std.specs.Prelude.{◌≡◌, ◌⊎◌, ℕ, List, codes}
use Rattle.sspi_types.specs.declared.package.SecurityPackageType.{SecurityPackageType}
use Rattle.sspi_types.specs.declared.package.SecurityPackageType.TheVariants.{Ntlm, Kerberos}
use Rattle.sspi_types.specs.declared.package.SecurityPackageType.TheVariants.{Negotiate, Other}

-- the name of each package
abbrev pub package_text : SecurityPackageType → List ℕ
package_text Ntlm = codes "NTLM"
package_text Kerberos = codes "Kerberos"
package_text Negotiate = codes "Negotiate"
package_text (Other name) = name

-- the name is that of a package of this library
abbrev pub IsOwnName : List ℕ → Type 0
IsOwnName name = (name ≡ package_text Ntlm) ⊎ (name ≡ package_text Kerberos) ⊎
    (name ≡ package_text Negotiate)

-- the package has this name, and is not an `Other` with the name of a package of this library
abbrev pub ReadsName : List ℕ → SecurityPackageType → Type 0
ReadsName name Ntlm = name ≡ package_text Ntlm
ReadsName name Kerberos = name ≡ package_text Kerberos
ReadsName name Negotiate = name ≡ package_text Negotiate
ReadsName name (Other other) = (other ≡ name) × (¬ IsOwnName name)
