-- How the ends of a negotiation begin.
use Rattle.std.specs.Prelude.{◌≡◌, List, [], None, Bool, true, false, Result, Ok, Err}
use Rattle.std.specs.Prelude.{if◌then◌else◌}
use Rattle.sspi_types.specs.declared.error_kind.ErrorKind.{ErrorKind}
use Rattle.sspi_types.specs.declared.error_kind.ErrorKind.TheVariants.{NoCredentials, InternalError}
use Rattle.sspi_types.specs.declared.error_kind.ErrorKind.TheVariants.{InsufficientMemory}
use Rattle.sspi_names.specs.declared.identity.AuthIdentity.{AuthIdentity}
use Rattle.sspi_mech.specs.Meaning.{Meaning}
use Rattle.sspi_mech.specs.Settings.{Setting}
use Rattle.sspi_negotiate.specs.declared.branch.Branch.TheVariants.{Idle}
use Rattle.sspi_negotiate.specs.declared.negotiate_config.NegotiateConfig.{NegotiateConfig}
use Rattle.sspi_negotiate.specs.declared.package_list.PackageListConfig.{PackageListConfig}
use Rattle.sspi_negotiate.specs.declared.protocol.NegotiatedProtocol.{NegotiatedProtocol}
use Rattle.sspi_negotiate.specs.declared.protocol_config.ProtocolConfig.{ProtocolConfig}
use Rattle.sspi_negotiate.specs.declared.protocol_config.ProtocolConfig.TheVariants as configs
use Rattle.sspi_negotiate.specs.declared.state.NegotiateState.TheVariants.{Initial}
use Rattle.sspi_negotiate.specs.declared.state.Role.{Role}
use Rattle.sspi_negotiate.specs.declared.state.Role.TheVariants.{Client, Server}
use Rattle.sspi_negotiate.specs.Hand.{Origin, Configured, InPlaceOfNtlm, in_place_of_kerberos, hand}
use Rattle.sspi_negotiate.specs.PackageList.{packages_of}
use Rattle.sspi_negotiate.specs.Values.{Negotiation}

-- what an end of a negotiation is made from; for a server, also the identities that it knows
pub data NegotiateSetting : Type 0 where
  ForClient : NegotiateConfig → NegotiateSetting
  ForServer : NegotiateConfig → List AuthIdentity → NegotiateSetting

abbrev pub packages_in : NegotiateConfig → PackageListConfig
packages_in config = packages_of config.package_list

-- An NTLM that may not be used gives way to Kerberos on a client; on a server that is an error.
abbrev pub without_ntlm : Role → NegotiateConfig → Bool → Result Origin ErrorKind
without_ntlm role config false = Err NoCredentials
without_ntlm Client config true = Ok (InPlaceOfNtlm None config.kdcs config.client_computer_name)
without_ntlm Server config true = Err InternalError

-- a Kerberos that may not be used gives way to NTLM
abbrev pub without_kerberos : NegotiateConfig → Bool → Result Origin ErrorKind
without_kerberos config false = Err NoCredentials
without_kerberos config true = Ok (in_place_of_kerberos config.client_computer_name)

abbrev pub first_by : Role → NegotiateConfig → ProtocolConfig → PackageListConfig →
    Result Origin ErrorKind
first_by role config (configs.Ntlm ntlm) packages =
    if packages.ntlm then Ok (Configured (configs.Ntlm ntlm))
    else without_ntlm role config packages.kerberos
first_by role config (configs.Kerberos kerberos) packages =
    if packages.kerberos then Ok (Configured (configs.Kerberos kerberos))
    else without_kerberos config packages.ntlm
first_by role config (configs.KerberosServer kerberos server) packages =
    if packages.kerberos then Ok (Configured (configs.KerberosServer kerberos server))
    else without_kerberos config packages.ntlm

-- the mechanism that is selected at first, or the kind of the refusal
abbrev pub first_in_hand : Role → NegotiateConfig → Result Origin ErrorKind
first_in_hand role config = first_by role config config.protocol_config (packages_in config)

abbrev pub IsFirst : {M : Type 0} → Meaning Origin M → Result Origin ErrorKind → M → Type 0
IsFirst c (Ok origin) m = c.made origin m
IsFirst c (Err kind) m = ⊥

abbrev pub IsUnmade : Result Origin ErrorKind → ErrorKind → Type 0
IsUnmade (Ok origin) kind = ⊥
IsUnmade (Err refusal) kind = refusal ≡ kind

-- the kind of a refusal: only out of memory, if there is a mechanism to make
abbrev pub TellsUnmade : Result Origin ErrorKind → ErrorKind → Type 0
TellsUnmade (Ok origin) kind = kind ≡ InsufficientMemory
TellsUnmade (Err refusal) kind = kind ≡ refusal

-- an end that has made no step
abbrev pub fresh : {M : Type 0} → Role → NegotiateConfig → List AuthIdentity → M → Negotiation M
fresh role config known m = record {
  role = role;
  state = Initial;
  packages = packages_in config;
  list = [];
  need = true;
  kept = None;
  known = known;
  computer = config.client_computer_name;
  kdcs = config.kdcs;
  branch = Idle;
  mech = m;
}

module _ {N K : Type 0} (n : Meaning Setting N) (k : Meaning Setting K) where
  abbrev pub Begins : Role → NegotiateConfig → List AuthIdentity →
      Negotiation (NegotiatedProtocol N K) → Type 0
  Begins role config known s = IsFirst (hand n k) (first_in_hand role config) s.mech ×
      (s ≡ fresh role config known s.mech)

  abbrev pub MadeOf : NegotiateSetting → Negotiation (NegotiatedProtocol N K) → Type 0
  MadeOf (ForClient config) s = Begins Client config [] s
  MadeOf (ForServer config known) s = Begins Server config known s

abbrev pub UnmadeOf : NegotiateSetting → ErrorKind → Type 0
UnmadeOf (ForClient config) kind = IsUnmade (first_in_hand Client config) kind
UnmadeOf (ForServer config known) kind = IsUnmade (first_in_hand Server config) kind
