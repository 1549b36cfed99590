-- The identities that the selected mechanism does not take.
use Rattle.std.specs.Prelude.{Bool, true, false}
use Rattle.sspi_names.specs.declared.credentials.Credentials.{Credentials}
use Rattle.sspi_names.specs.declared.credentials.Credentials.TheVariants.{AuthIdentity, Keytab}
use Rattle.sspi_negotiate.specs.declared.protocol.Protocol.{Protocol}
use Rattle.sspi_negotiate.specs.declared.protocol.Protocol.TheVariants as protocols

-- an identity that the selected mechanism does not take alone: a keytab, while that is NTLM
abbrev pub is_refused_identity : Protocol → Credentials → Bool
is_refused_identity protocol (AuthIdentity identity) = false
is_refused_identity protocols.Ntlm (Keytab identity) = true
is_refused_identity protocols.Kerberos (Keytab identity) = false
