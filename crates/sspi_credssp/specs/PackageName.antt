-- The selected package: its name, and the mechanism that it authenticates by.
use Rattle.std.specs.Prelude.{ℕ, List}
use Rattle.sspi_types.specs.declared.package.SecurityPackageType.TheVariants as packages
use Rattle.sspi_types.specs.PackageNames.{package_text}
use Rattle.sspi_negotiate.specs.declared.protocol.Protocol.{Protocol}
use Rattle.sspi_negotiate.specs.declared.protocol.Protocol.TheVariants as protocols
use Rattle.sspi_negotiate.specs.Hand.{hand_of}
use Rattle.sspi_credssp.specs.declared.context.SspiContext.{SspiContext}
use Rattle.sspi_credssp.specs.declared.context.SspiContext.TheVariants as hands

abbrev pub package_name_of : {N K : Type 0} → SspiContext N K → List ℕ
package_name_of (hands.Negotiate it) = package_text packages.Negotiate
package_name_of (hands.Ntlm it) = package_text packages.Ntlm
package_name_of (hands.Kerberos it) = package_text packages.Kerberos

-- the selected mechanism, negotiated or not
abbrev pub protocol_of : {N K : Type 0} → SspiContext N K → Protocol
protocol_of (hands.Negotiate it) = hand_of it.mech
protocol_of (hands.Ntlm it) = protocols.Ntlm
protocol_of (hands.Kerberos it) = protocols.Kerberos
