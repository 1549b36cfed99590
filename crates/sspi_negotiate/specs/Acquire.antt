-- Acquiring credentials (AcquireCredentialsHandle).
use Rattle.std.specs.Prelude.{◌≡◌, ℕ, List, ◌&&◌, Option, None, Some, option_map, Bool, true, false}
use Rattle.sspi_types.specs.declared.credential_use.CredentialUse.{CredentialUse}
use Rattle.sspi_types.specs.declared.credential_use.CredentialUse.TheVariants as purposes
use Rattle.sspi_types.specs.declared.error_kind.ErrorKind.{ErrorKind}
use Rattle.sspi_types.specs.declared.error_kind.ErrorKind.TheVariants.{NoCredentials}
use Rattle.sspi_names.specs.Identity.{credentials_buffers_of}
use Rattle.sspi_names.specs.declared.credentials.Credentials.{Credentials}
use Rattle.sspi_names.specs.declared.credentials.Credentials.TheVariants.{AuthIdentity, Keytab}
use Rattle.sspi_names.specs.declared.credentials.CredentialsBuffers.{CredentialsBuffers}
use Rattle.sspi_mech.specs.Calls.{ToAcquire}
use Rattle.sspi_mech.specs.Meaning.{Meaning}
use Rattle.sspi_mech.specs.Settings.{Setting}
use Rattle.sspi_negotiate.specs.declared.protocol.NegotiatedProtocol.{NegotiatedProtocol}
use Rattle.sspi_negotiate.specs.declared.protocol.Protocol.{Protocol}
use Rattle.sspi_negotiate.specs.declared.protocol.Protocol.TheVariants as protocols
use Rattle.sspi_negotiate.specs.declared.state.Role.{Role}
use Rattle.sspi_negotiate.specs.declared.state.Role.TheVariants.{Client, Server}
use Rattle.sspi_negotiate.specs.Hand.{hand, hand_of}
use Rattle.sspi_negotiate.specs.Rule.{rule_url, TakenBy}
use Rattle.sspi_negotiate.specs.Values.{Values, Negotiation, values_of}

abbrev pub is_outbound : CredentialUse → Bool
is_outbound purposes.Inbound = false
is_outbound purposes.Outbound = true
is_outbound purposes.Both = false
is_outbound purposes.Default = false

-- no credentials, or a keytab while NTLM is selected
abbrev pub lacks : Protocol → Option Credentials → Bool
lacks protocol None = true
lacks protocol (Some (AuthIdentity identity)) = false
lacks protocols.Ntlm (Some (Keytab identity)) = true
lacks protocols.Kerberos (Some (Keytab identity)) = false

-- Kerberos may replace NTLM on a client that is given a name and a password
abbrev pub acquired_url : Role → Values → Option Credentials → Option (List ℕ)
acquired_url Client v None = None
acquired_url Client v (Some (AuthIdentity identity)) = rule_url v identity.username
acquired_url Client v (Some (Keytab identity)) = None
acquired_url Server v asked = None

module _ {N K : Type 0} (n : Meaning Setting N) (k : Meaning Setting K) where
  -- the mechanism that is then selected acquires, and the buffers of the credentials are kept
  pub record Acquires (s : Negotiation (NegotiatedProtocol N K)) (use_ : CredentialUse)
      (asked : Option Credentials)
      (buffers : Option CredentialsBuffers) (s2 : Negotiation (NegotiatedProtocol N K)) : Type 0
    where
      pub allowed : is_outbound use_ && lacks (hand_of s.mech) asked ≡ false
      pub mech : NegotiatedProtocol N K
      pub taken : TakenBy (hand n k) (acquired_url s.role (values_of s) asked) s.kdcs s.computer
          s.mech mech
      pub acquired : (hand n k).acquires mech use_ asked buffers s2.mech
      pub kept : s2 ≡ record s { kept = option_map credentials_buffers_of asked; mech = s2.mech }

  abbrev pub RefusedBy : Bool → Negotiation (NegotiatedProtocol N K) → CredentialUse →
      Option Credentials → ErrorKind → Type 0
  RefusedBy true s use_ asked kind = kind ≡ NoCredentials
  RefusedBy false s use_ asked kind = (mech : NegotiatedProtocol N K)
      × TakenBy (hand n k) (acquired_url s.role (values_of s) asked) s.kdcs s.computer s.mech mech ×
      (hand n k).refuses mech (ToAcquire use_ asked) kind

  abbrev pub RefusesToAcquire : Negotiation (NegotiatedProtocol N K) → CredentialUse →
      Option Credentials → ErrorKind → Type 0
  RefusesToAcquire s use_ asked kind = RefusedBy (is_outbound use_ && lacks (hand_of s.mech) asked)
      s use_ asked kind
