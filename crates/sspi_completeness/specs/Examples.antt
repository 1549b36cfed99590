-- Negotiating ends, as in the examples by hand.
use Rattle.std.specs.Prelude.{ℕ, List, [], ◌∷◌, codes, replicate, Option, None, Some}
use Rattle.sspi_names.specs.declared.identity.AuthIdentity.{AuthIdentity}
use Rattle.sspi_names.specs.declared.network.NetworkRequest.{NetworkRequest}
use Rattle.sspi_names.specs.Name.{inner_of}
use Rattle.sspi_mech.specs.declared.step.Reply.{Reply}
use Rattle.sspi_mech.specs.PlainKdc.{told_by}
use Rattle.sspi_negotiate.specs.declared.negotiate_config.NegotiateConfig.{NegotiateConfig}
use Rattle.sspi_negotiate.specs.declared.protocol_config.ProtocolConfig.{ProtocolConfig}
use Rattle.sspi_negotiate.specs.declared.protocol_config.ProtocolConfig.TheVariants as configs

-- a target that is not named by an IP address
abbrev pub example_target : List ℕ
example_target = codes "TERMSRV/host.example.com"

-- an end that may use both packages, and knows no KDC of a realm
abbrev pub example_end : ProtocolConfig → List ℕ → NegotiateConfig
example_end first computer = record {
  protocol_config = first;
  package_list = None;
  client_computer_name = computer;
  kdcs = [];
}

-- with NTLM selected, whose challenge is zeros
abbrev pub example_ntlm : List ℕ → NegotiateConfig
example_ntlm computer = example_end (configs.Ntlm
    (record { client_computer_name = Some computer; challenge = replicate 8 0 })) computer

-- a client with Kerberos selected, which asks this KDC; a server of Kerberos with this ticket
abbrev pub example_kerberos : List ℕ → List ℕ → NegotiateConfig
example_kerberos url computer =
    example_end (configs.Kerberos (record {
      kdc_url = Some url;
      kdcs = [];
      client_computer_name = computer;
    })) computer

abbrev pub example_ticket : List ℕ → List ℕ → NegotiateConfig
example_ticket ticket computer =
    example_end (configs.KerberosServer
    (record { kdc_url = None; kdcs = []; client_computer_name = computer })
    (record { ticket = Some ticket })) computer

-- a plain KDC that knows only the client, and answers as usual
abbrev pub example_kdc : AuthIdentity → Option (ℕ → NetworkRequest → Reply)
example_kdc identity = Some (told_by (inner_of identity.username ∷ []) [])
