-- Which credentials plain NTLM takes, and their buffers.
use Rattle.std.specs.Prelude.{Option, None, Some, Result, Ok, Err}
use Rattle.sspi_types.specs.declared.credential_use.CredentialUse.{CredentialUse}
use Rattle.sspi_types.specs.declared.credential_use.CredentialUse.TheVariants.{Inbound, Outbound}
use Rattle.sspi_types.specs.declared.credential_use.CredentialUse.TheVariants.{Both, Default}
use Rattle.sspi_types.specs.declared.error_kind.ErrorKind.{ErrorKind}
use Rattle.sspi_types.specs.declared.error_kind.ErrorKind.TheVariants.{UnknownCredentials}
use Rattle.sspi_types.specs.declared.error_kind.ErrorKind.TheVariants.{NoCredentials}
use Rattle.sspi_names.specs.Identity.{credentials_buffers_of}
use Rattle.sspi_names.specs.declared.credentials.Credentials.{Credentials}
use Rattle.sspi_names.specs.declared.credentials.Credentials.TheVariants.{AuthIdentity, Keytab}
use Rattle.sspi_names.specs.declared.credentials.CredentialsBuffers.{CredentialsBuffers}

-- a keytab is refused, and outbound use requires credentials
abbrev pub acquired : CredentialUse → Option Credentials →
    Result (Option CredentialsBuffers) ErrorKind
acquired use_of (Some (Keytab identity)) = Err UnknownCredentials
acquired use_of (Some (AuthIdentity identity)) =
    Ok (Some (credentials_buffers_of (AuthIdentity identity)))
acquired Inbound None = Ok None
acquired Outbound None = Err NoCredentials
acquired Both None = Ok None
acquired Default None = Ok None
