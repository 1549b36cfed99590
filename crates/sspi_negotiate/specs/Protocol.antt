-- The name of the selected mechanism.
use Rattle.std.specs.Prelude.{ℕ, List, Bool, true, false, codes}
use Rattle.sspi_negotiate.specs.declared.protocol.NegotiatedProtocol.{NegotiatedProtocol}
use Rattle.sspi_negotiate.specs.declared.protocol.NegotiatedProtocol.TheVariants as hands

abbrev pub is_kerberos : {N K : Type 0} → NegotiatedProtocol N K → Bool
is_kerberos (hands.Kerberos it) = true
is_kerberos (hands.Ntlm it) = false

abbrev pub is_ntlm : {N K : Type 0} → NegotiatedProtocol N K → Bool
is_ntlm (hands.Kerberos it) = false
is_ntlm (hands.Ntlm it) = true

abbrev pub protocol_name : {N K : Type 0} → NegotiatedProtocol N K → List ℕ
protocol_name (hands.Kerberos it) = codes "Kerberos"
protocol_name (hands.Ntlm it) = codes "NTLM"
