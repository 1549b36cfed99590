-- What is known of each package.
use Rattle.std.specs.Prelude.{Option, None, Some, codes}
use Rattle.sspi_types.specs.declared.error.Error.{Error}
use Rattle.sspi_types.specs.declared.error_kind.ErrorKind.TheVariants.{Unknown}
use Rattle.sspi_types.specs.declared.package.PackageInfo.{PackageInfo}
use Rattle.sspi_types.specs.declared.package.SecurityPackageType.{SecurityPackageType}
use Rattle.sspi_types.specs.declared.package.SecurityPackageType.TheVariants.{Ntlm, Kerberos}
use Rattle.sspi_types.specs.declared.package.SecurityPackageType.TheVariants.{Negotiate, Other}
use Rattle.sspi_types.specs.declared.reason.Reason.TheVariants.{Package}

-- what is known of each package: no capabilities, no identifier for RPC, the maximum token length,
-- a comment
abbrev pub negotiate_entry : PackageInfo
negotiate_entry = record {
  capabilities = record { 0 = 0 };
  rpc_id = 0xffff;
  max_token_len = 0xbb80;
  name = Negotiate;
  comment = codes "Microsoft Package Negotiator";
}

abbrev pub kerberos_entry : PackageInfo
kerberos_entry = record {
  capabilities = record { 0 = 0 };
  rpc_id = 0xffff;
  max_token_len = 0xbb80;
  name = Kerberos;
  comment = codes "Kerberos Security Package";
}

abbrev pub ntlm_entry : PackageInfo
ntlm_entry = record {
  capabilities = record { 0 = 0 };
  rpc_id = 0xffff;
  max_token_len = 0xb48;
  name = Ntlm;
  comment = codes "NTLM Security Package";
}

-- the entry of a package, which only the three packages of this library have
abbrev pub package_entry : SecurityPackageType → Option PackageInfo
package_entry Ntlm = Some ntlm_entry
package_entry Kerberos = Some kerberos_entry
package_entry Negotiate = Some negotiate_entry
package_entry (Other name) = None

-- what a call answers when asked for a package that has no entry
abbrev pub unknown_package : Error
unknown_package = record { error_type = Unknown; description = Package; nstatus = None }
