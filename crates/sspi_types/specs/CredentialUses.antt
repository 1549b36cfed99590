-- The number of each use of credentials.
use Rattle.std.specs.Prelude.{ℕ}
use Rattle.sspi_types.specs.declared.credential_use.CredentialUse.{CredentialUse}
use Rattle.sspi_types.specs.declared.credential_use.CredentialUse.TheVariants.{Inbound, Outbound}
use Rattle.sspi_types.specs.declared.credential_use.CredentialUse.TheVariants.{Both, Default}

-- the number of each use (sspi.h, SECPKG_CRED_*)
abbrev pub credential_use_number : CredentialUse → ℕ
credential_use_number Inbound = 1
credential_use_number Outbound = 2
credential_use_number Both = 3
credential_use_number Default = 4
