-- Exchanges worked by hand: what the two ends of each are made of, that they match, and what they
-- come to.
use Rattle.std.specs.Prelude.{◌≡◌, ℕ, ◌^◌, ◌<◌, ◌≤◌, List, [], ◌∷◌, length, codes, replicate}
use Rattle.std.specs.Prelude.{nat_lt, Option, None, Some}
use Rattle.sspi_names.specs.declared.credentials.Credentials.TheVariants as credentials
use Rattle.sspi_names.specs.declared.identity.AuthIdentity.{AuthIdentity}
use Rattle.sspi_names.specs.declared.kdc_table.KdcEntry.{KdcEntry}
use Rattle.sspi_names.specs.declared.network.NetworkRequest.{NetworkRequest}
use Rattle.sspi_names.specs.Identity.{IsIdentity}
use Rattle.sspi_mech.specs.declared.config.KerberosConfig.{KerberosConfig}
use Rattle.sspi_mech.specs.declared.config.NtlmConfig.{NtlmConfig}
use Rattle.sspi_mech.specs.declared.step.Reply.{Reply}
use Rattle.sspi_mech.specs.PlainKdc.{PlainKdcState}
use Rattle.sspi_negotiate.specs.declared.negotiate_config.NegotiateConfig.{NegotiateConfig}
use Rattle.sspi_negotiate.specs.declared.protocol_config.ProtocolConfig.{ProtocolConfig}
use Rattle.sspi_negotiate.specs.declared.protocol_config.ProtocolConfig.TheVariants as configs
use Rattle.sspi_tsreq.specs.declared.mode.CredSspMode.{CredSspMode}
use Rattle.sspi_tsreq.specs.declared.mode.CredSspMode.TheVariants.{WithCredentials}
use Rattle.sspi_credssp.specs.declared.mode.ClientMode.{ClientMode}
use Rattle.sspi_credssp.specs.declared.mode.ClientMode.TheVariants as client_mode
use Rattle.sspi_credssp.specs.declared.mode.ServerMode.{ServerMode}
use Rattle.sspi_credssp.specs.declared.mode.ServerMode.TheVariants as server_mode
use Rattle.sspi_credssp.specs.Ends.{ClientView, IsFreshClient, ServerView, IsFreshServer}
use Rattle.sspi_credssp.specs.Table.{TableView}
use Rattle.sspi_completeness.specs.Answered.{ann, ann_of_realm}
use Rattle.sspi_completeness.specs.Examples.{example_target}
use Rattle.sspi_completeness.specs.Matching.{MatchModes, messages_of, IsShort, key_limit}

-- ---- what an exchange is made of

-- The channel's key, the client's identity, which the server knows, and whether the client
-- delegates its credentials. Then the versions, the lowest that both ends accept, and how each end
-- authenticates.
pub record Example : Type 0 where
  pub key : List ℕ
  pub identity : AuthIdentity
  pub delegation : CredSspMode
  pub client_version : ℕ
  pub server_version : ℕ
  pub least : ℕ
  pub client : ClientMode
  pub server : ServerMode

-- its client, to which nothing was delivered
pub record IsClientOf {C : Type 0} (x : Example) (client : ClientView C) : Type 0 where
  pub fresh : IsFreshClient client
  pub public_key : client.settings.public_key ≡ x.key
  pub credentials : client.settings.credentials ≡ credentials.AuthIdentity x.identity
  pub delegation : client.settings.delegation ≡ x.delegation
  pub version : client.settings.version ≡ x.client_version
  pub least : client.settings.least ≡ x.least
  pub mode : client.settings.mode ≡ x.client
  pub target : client.settings.target ≡ example_target
  pub nonce : length client.settings.nonce ≡ 32

-- its server, to which nothing was delivered, and whose proxy knows only the client
pub record IsServerOf {C : Type 0} (x : Example) (server : ServerView C TableView) : Type 0 where
  pub fresh : IsFreshServer server
  pub public_key : server.settings.public_key ≡ x.key
  pub proxy : server.proxy ≡ record {
    entries = x.identity ∷ [];
    failing = [];
    calls = 0;
    faults = 0;
  }
  pub version : server.settings.version ≡ x.server_version
  pub least : server.settings.least ≡ x.least
  pub mode : server.settings.mode ≡ x.server

-- The ends match, and the client makes this many messages; `told` and `call` are the replies that
-- its KDC exposes, and the number of its next call.
pub record Matches (told : Option (ℕ → NetworkRequest → Reply)) (call messages : ℕ)
    (x : Example) : Type 0 where
  pub identity_is : IsIdentity x.identity
  pub short : IsShort x.identity
  pub key_short : length x.key ≤ key_limit
  pub versions : nat_lt x.client_version 5 ≡ nat_lt x.server_version 5
  pub client_takes : x.least ≤ x.server_version
  pub server_takes : x.least ≤ x.client_version
  pub client_version : x.client_version < 2 ^ 32
  pub server_version : x.server_version < 2 ^ 32
  pub modes : MatchModes told call example_target x.identity x.client x.server
  pub counted : messages_of told call example_target x.identity x.client x.server modes ≡ messages

-- ---- how the ends authenticate

abbrev pub computer : List ℕ
computer = codes "CLIENT"

abbrev pub client_ntlm : NtlmConfig
client_ntlm = record { client_computer_name = Some computer; challenge = replicate 8 0 }

abbrev pub server_ntlm : NtlmConfig
server_ntlm = record { client_computer_name = None; challenge = replicate 8 0 }

-- the KDC that serves the realm of ann@example.com
abbrev pub realm_table : List KdcEntry
realm_table = record { realm = codes "EXAMPLE.COM"; url = codes "tcp://kdc" } ∷ []

-- a KDC that knows only ann@example.com, and has not been asked yet
abbrev pub realm_kdc : PlainKdcState
realm_kdc = record { users = codes "ann@example.com" ∷ []; script = []; asked = 0; faults = 0 }

-- a negotiation that begins with this mechanism
abbrev pub negotiation : ProtocolConfig → Option (List ℕ) → List KdcEntry → NegotiateConfig
negotiation first packages kdcs = record {
  protocol_config = first;
  package_list = packages;
  client_computer_name = computer;
  kdcs = kdcs;
}

abbrev pub with_ntlm : NtlmConfig → NegotiateConfig
with_ntlm config = negotiation (configs.Ntlm config) None []

-- Kerberos, whose KDC is that of the realm
abbrev pub realm_kerberos : KerberosConfig
realm_kerberos = record { kdc_url = None; kdcs = realm_table; client_computer_name = computer }

-- a client with Kerberos selected, which finds its KDC by the realm of its name
abbrev pub with_kerberos : NegotiateConfig
with_kerberos = negotiation (configs.Kerberos realm_kerberos) None realm_table

-- a server with Kerberos selected and a ticket, and one that may use only NTLM
abbrev pub with_ticket : NegotiateConfig
with_ticket =
    negotiation (configs.KerberosServer realm_kerberos
    (record { ticket = Some (replicate 32 0x11) })) None realm_table

abbrev pub with_ntlm_alone : NegotiateConfig
with_ntlm_alone = negotiation (configs.Ntlm server_ntlm) (Some (codes "ntlm")) realm_table

-- ---- the exchanges

abbrev pub ntlm_example : CredSspMode → ℕ → ℕ → ℕ → Example
ntlm_example delegation client_version server_version least = record {
  key = 1 ∷ 2 ∷ 3 ∷ [];
  identity = ann;
  delegation = delegation;
  client_version = client_version;
  server_version = server_version;
  least = least;
  client = client_mode.Ntlm client_ntlm;
  server = server_mode.Ntlm server_ntlm;
}

abbrev pub negotiated : List ℕ → AuthIdentity → ℕ → ℕ → NegotiateConfig → NegotiateConfig → Example
negotiated key identity version least client server = record {
  key = key;
  identity = identity;
  delegation = WithCredentials;
  client_version = version;
  server_version = version;
  least = least;
  client = client_mode.Negotiate client;
  server = server_mode.Negotiate server;
}

-- a negotiation of NTLM at version 4, and one with a channel key of 270 bytes
abbrev pub negotiated_at_version_4 : Example
negotiated_at_version_4 = negotiated (1 ∷ 2 ∷ 3 ∷ []) ann 4 4 (with_ntlm client_ntlm)
    (with_ntlm server_ntlm)

abbrev pub negotiated_with_a_long_key : Example
negotiated_with_a_long_key =
    negotiated (replicate 270 0x3B) (ann_of_realm (codes "fourteenletter")) 6 5
    (with_ntlm client_ntlm) (with_ntlm server_ntlm)

-- a negotiation that the client begins with Kerberos: the server picks it, or may use only NTLM
abbrev pub user_to_user : Example
user_to_user = negotiated (1 ∷ 2 ∷ 3 ∷ []) (ann_of_realm (codes "pw")) 6 5 with_kerberos with_ticket

abbrev pub given_up_for_ntlm : Example
given_up_for_ntlm = negotiated (1 ∷ 2 ∷ 3 ∷ []) (ann_of_realm (codes "pw")) 6 5 with_kerberos
    with_ntlm_alone
