-- The refusals of Kerberos after which a client goes on with NTLM.
use Rattle.std.specs.Prelude.{Bool, true, false}
use Rattle.sspi_types.specs.declared.error_kind.ErrorKind.{ErrorKind}
use Rattle.sspi_types.specs.declared.error_kind.ErrorKind.TheVariants.{TimeSkew}
use Rattle.sspi_types.specs.declared.error_kind.ErrorKind.TheVariants.{NoAuthenticatingAuthority}
use Rattle.sspi_types.specs.declared.error_kind.ErrorKind.TheVariants.{CertificateUnknown}
use Rattle.sspi_types.specs.declared.error_kind.ErrorKind.TheVariants.{UnknownCredentials}

-- the kinds of a Kerberos refusal after which a client goes on with NTLM
unfoldable pub is_fallback : ErrorKind → Bool
is_fallback TimeSkew = true
is_fallback NoAuthenticatingAuthority = true
is_fallback CertificateUnknown = true
is_fallback UnknownCredentials = true
is_fallback kind = false
