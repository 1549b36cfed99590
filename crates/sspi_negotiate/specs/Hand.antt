-- The selected mechanism, as one meaning: an NTLM of type N or a Kerberos of type K.
use Rattle.std.specs.Prelude.{ℕ, ◌+◌, List, ◌⊎◌, Option, Some, filter, take, replicate, Bool, true}
use Rattle.std.specs.Prelude.{false}
use mathlib.Core.Logic.{inl, inr}
use Rattle.sspi_names.specs.declared.kdc_table.KdcEntry.{KdcEntry}
use Rattle.sspi_mech.specs.Meaning.{Meaning}
use Rattle.sspi_mech.specs.NtlmIdentities.{has_password}
use Rattle.sspi_mech.specs.Settings.{Setting, OfNtlm, OfKerberos, OfKerberosServer}
use Rattle.sspi_mech.specs.Sum.{sum, taking, seen}
use Rattle.sspi_negotiate.specs.declared.protocol.NegotiatedProtocol.{NegotiatedProtocol}
use Rattle.sspi_negotiate.specs.declared.protocol.NegotiatedProtocol.TheVariants as hands
use Rattle.sspi_negotiate.specs.declared.protocol.Protocol.{Protocol}
use Rattle.sspi_negotiate.specs.declared.protocol.Protocol.TheVariants.{Kerberos, Ntlm}
use Rattle.sspi_negotiate.specs.declared.protocol_config.ProtocolConfig.{ProtocolConfig}
use Rattle.sspi_negotiate.specs.declared.protocol_config.ProtocolConfig.TheVariants as configs

-- What a newly selected mechanism is made from: a configuration or, for a Kerberos in place of an
-- NTLM, this URL, these KDCs and this computer name.
pub data Origin : Type 0 where
  Configured : ProtocolConfig → Origin
  InPlaceOfNtlm : Option (List ℕ) → List KdcEntry → List ℕ → Origin

-- an NTLM that replaces Kerberos: its challenge is eight zero bytes
abbrev pub in_place_of_kerberos : List ℕ → Origin
in_place_of_kerberos computer = Configured
    (configs.Ntlm (record { client_computer_name = Some computer; challenge = replicate 8 0 }))

-- a Kerberos that replaces NTLM
abbrev pub kerberos_setting : Option (List ℕ) → List KdcEntry → List ℕ → Setting
kerberos_setting url kdcs computer = OfKerberos
    (record { kdc_url = url; kdcs = kdcs; client_computer_name = computer })

abbrev pub configured : Origin → Setting ⊎ Setting
configured (Configured (configs.Ntlm config)) = inl (OfNtlm config)
configured (Configured (configs.Kerberos config)) = inr (OfKerberos config)
configured (Configured (configs.KerberosServer config server)) =
    inr (OfKerberosServer config server)
configured (InPlaceOfNtlm url kdcs computer) = inr (kerberos_setting url kdcs computer)

abbrev pub as_sum : {N K : Type 0} → NegotiatedProtocol N K → N ⊎ K
as_sum (hands.Ntlm m) = inl m
as_sum (hands.Kerberos m) = inr m

abbrev pub of_sum : {N K : Type 0} → N ⊎ K → NegotiatedProtocol N K
of_sum (inl m) = hands.Ntlm m
of_sum (inr m) = hands.Kerberos m

-- NTLM takes the identities with a password, Kerberos the first identity
abbrev pub hand : {N K : Type 0} → Meaning Setting N → Meaning Setting K →
    Meaning Origin (NegotiatedProtocol N K)
hand n k = seen configured as_sum of_sum (sum (taking (filter has_password) n) (taking (take 1) k))

-- its name
abbrev pub hand_of : {N K : Type 0} → NegotiatedProtocol N K → Protocol
hand_of (hands.Ntlm m) = Ntlm
hand_of (hands.Kerberos m) = Kerberos

-- whether it is Kerberos
abbrev pub is_kerberos_hand : Protocol → Bool
is_kerberos_hand Kerberos = true
is_kerberos_hand Ntlm = false

abbrev pub is_ntlm_hand : Protocol → Bool
is_ntlm_hand Kerberos = false
is_ntlm_hand Ntlm = true

-- How often it may still ask a KDC. An NTLM may replace a Kerberos, and then ask up to `requests`
-- times.
abbrev pub asks_left : {N K : Type 0} → ℕ → Meaning Setting N → Meaning Setting K →
    NegotiatedProtocol N K → ℕ
asks_left requests n k (hands.Ntlm m) = n.left m
asks_left requests n k (hands.Kerberos m) = k.left m + requests
