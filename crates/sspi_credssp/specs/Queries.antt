-- What a context reports of the mechanism that a negotiation has selected.
use Rattle.std.specs.Prelude.{◌≡◌, Option, None, Some}
use Rattle.sspi_types.specs.declared.error_kind.ErrorKind.{ErrorKind}
use Rattle.sspi_types.specs.declared.error_kind.ErrorKind.TheVariants.{UnsupportedFunction}
use Rattle.sspi_types.specs.declared.package.PackageInfo.{PackageInfo}
use Rattle.sspi_mech.specs.Calls.{ToDescribe}
use Rattle.sspi_mech.specs.Meaning.{Meaning}
use Rattle.sspi_mech.specs.Settings.{Setting}
use Rattle.sspi_negotiate.specs.Hand.{hand}
use Rattle.sspi_credssp.specs.declared.context.SspiContext.{SspiContext}
use Rattle.sspi_credssp.specs.declared.context.SspiContext.TheVariants.{Negotiate, Ntlm, Kerberos}

module _ {N K : Type 0} (n : Meaning Setting N) (k : Meaning Setting K) where
  -- its entry; there is none if nothing was negotiated
  abbrev pub negotiated_entry : SspiContext N K → Option PackageInfo
  negotiated_entry (Negotiate s) = Some ((hand n k).entry s.mech)
  negotiated_entry (Ntlm m) = None
  negotiated_entry (Kerberos m) = None

  -- why it is not reported
  abbrev pub RefusesNegotiated : SspiContext N K → ErrorKind → Type 0
  RefusesNegotiated (Negotiate s) kind = (hand n k).refuses s.mech ToDescribe kind
  RefusesNegotiated (Ntlm m) kind = kind ≡ UnsupportedFunction
  RefusesNegotiated (Kerberos m) kind = kind ≡ UnsupportedFunction
