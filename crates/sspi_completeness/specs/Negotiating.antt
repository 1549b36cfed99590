-- Two ends that negotiate (RFC 4178; MS-SPNG 3.1.5), each with a mechanism of its own, and what
-- they need to complete.
use Rattle.std.specs.Prelude.{◌≡◌, ◌↔◌, ◌&&◌, ◌||◌, ℕ, Bool, false, IsTrue, List, length, replicate}
use Rattle.std.specs.Prelude.{is_some}
use Rattle.std.specs.Prelude.{Option, None, Some, Ok, if◌then◌else◌}
use Rattle.sspi_names.specs.declared.identity.AuthIdentity.{AuthIdentity}
use Rattle.sspi_names.specs.declared.network.NetworkRequest.{NetworkRequest}
use Rattle.sspi_names.specs.Identity.{buffers_of}
use Rattle.sspi_names.specs.Name.{Name, domain_of, inner_of}
use Rattle.sspi_names.specs.Utf16.{text_of}
use Rattle.sspi_mech.specs.declared.step.Reply.{Reply}
use Rattle.sspi_mech.specs.declared.step.Reply.TheVariants.{Answered}
use Rattle.sspi_types.specs.Counting.{counted_on}
use Rattle.sspi_mech.specs.KerberosLogon.{request_at, url_by}
use Rattle.sspi_mech.specs.KerberosMessages.{as_request, as_reply, tgs_request, tgs_reply}
use Rattle.sspi_negotiate.specs.declared.negotiate_config.NegotiateConfig.{NegotiateConfig}
use Rattle.sspi_negotiate.specs.declared.package_list.PackageListConfig.{PackageListConfig}
use Rattle.sspi_negotiate.specs.declared.pick.Choice.{Choice}
use Rattle.sspi_negotiate.specs.declared.pick.Choice.TheVariants as choices
use Rattle.sspi_negotiate.specs.declared.pick.Picked.{Picked}
use Rattle.sspi_negotiate.specs.declared.protocol.Protocol.{Protocol}
use Rattle.sspi_negotiate.specs.declared.protocol.Protocol.TheVariants.{Ntlm, Kerberos}
use Rattle.sspi_negotiate.specs.declared.protocol_config.ProtocolConfig.TheVariants as configs
use Rattle.sspi_negotiate.specs.declared.state.Role.TheVariants.{Client, Server}
use Rattle.sspi_negotiate.specs.Hand.{Origin, Configured, InPlaceOfNtlm, is_kerberos_hand}
use Rattle.sspi_negotiate.specs.New.{first_in_hand, packages_in}
use Rattle.sspi_negotiate.specs.Pick.{pick, offered}
use Rattle.sspi_negotiate.specs.Rows.{is_guest_text}
use Rattle.sspi_negotiate.specs.Rule.{url_for}
use Rattle.sspi_negotiate.specs.Target.{IsNamedByIp}

-- ---- which mechanism an end has selected

abbrev pub protocol_of : Origin → Protocol
protocol_of (Configured (configs.Ntlm config)) = Ntlm
protocol_of (Configured (configs.Kerberos config)) = Kerberos
protocol_of (Configured (configs.KerberosServer config server)) = Kerberos
protocol_of (InPlaceOfNtlm url kdcs computer) = Kerberos

-- What a client begins with, by its initially selected mechanism and the URL of a KDC for the
-- domain of its name. It is NTLM if the target is named by its IP address and NTLM may be used;
-- else Kerberos, if it is selected, or may be used and there is such a KDC.
abbrev pub begins_with : Bool → PackageListConfig → Protocol → Option (List ℕ) → Protocol
begins_with ip packages first url =
    if ip && packages.ntlm then Ntlm
    else if is_kerberos_hand first || (packages.kerberos && is_some url) then Kerberos else Ntlm

-- the URL by which its Kerberos asks the KDC: that of its configuration, else the one for the
-- domain of its name
abbrev pub kdc_url : NegotiateConfig → Origin → Name → Option (List ℕ)
kdc_url config (Configured (configs.Ntlm ntlm)) name = url_for config.kdcs (domain_of name)
kdc_url config (Configured (configs.Kerberos kerberos)) name =
    url_by kerberos.kdc_url kerberos.kdcs name
kdc_url config (Configured (configs.KerberosServer kerberos server)) name =
    url_by kerberos.kdc_url kerberos.kdcs name
kdc_url config (InPlaceOfNtlm url kdcs computer) name = url_by url kdcs name

-- the challenge that a server's NTLM sends: eight zeros, if it takes the place of Kerberos
abbrev pub challenge_of : Origin → List ℕ
challenge_of (Configured (configs.Ntlm config)) = config.challenge
challenge_of (Configured (configs.Kerberos config)) = replicate 8 0
challenge_of (Configured (configs.KerberosServer config server)) = replicate 8 0
challenge_of (InPlaceOfNtlm url kdcs computer) = replicate 8 0

-- the ticket of a server of Kerberos
abbrev pub ticket_of : Origin → Option (List ℕ)
ticket_of (Configured (configs.Ntlm config)) = None
ticket_of (Configured (configs.Kerberos config)) = None
ticket_of (Configured (configs.KerberosServer config server)) = server.ticket
ticket_of (InPlaceOfNtlm url kdcs computer) = None

-- ---- what they need

-- NTLM: the client is not a guest, whose negotiation would go unprotected, and the server's
-- challenge has 8 bytes
pub record SuitNtlm (server : Origin) (identity : AuthIdentity) : Type 0 where
  pub no_guest : is_guest_text (text_of (buffers_of identity).user) ≡ false
  pub challenge : length (challenge_of server) ≡ 8

-- The first step of Kerberos: the client has the URL of a KDC. The KDC exposes its replies by call
-- number and request. At its next call it has a first key for the client's name.
pub record HasFirstKey (told : Option (ℕ → NetworkRequest → Reply)) (call : ℕ)
    (url : Option (List ℕ)) (name : Name) : Type 0 where
  pub at : List ℕ
  pub url_is : url ≡ Some at
  pub replies : ℕ → NetworkRequest → Reply
  pub tells : told ≡ Some replies
  pub key : List ℕ
  pub key_length : length key ≡ 32
  pub reply : replies call (request_at at (as_request (inner_of name))) ≡ Answered (as_reply key)

-- All of Kerberos: the server holds a ticket, and besides that first key the KDC has a session key
-- for it at the following call.
pub record HasSessionKey (told : Option (ℕ → NetworkRequest → Reply)) (call : ℕ)
    (url : Option (List ℕ)) (name : Name)
    (ticket : Option (List ℕ)) : Type 0 where
  pub first : HasFirstKey told call url name
  pub sent : List ℕ
  pub ticket_is : ticket ≡ Some sent
  pub ticket_length : length sent ≡ 32
  pub key : List ℕ
  pub key_length : length key ≡ 32
  pub reply : first.replies (counted_on call) (request_at first.at (tgs_request first.key sent)) ≡
      Answered (tgs_reply key)

module _ (told : Option (ℕ → NetworkRequest → Reply)) (call : ℕ) where
  -- by what the client begins with, and what the server picks
  abbrev pub Needs : Protocol → Choice → Option (List ℕ) → Origin → AuthIdentity → Type 0
  Needs Ntlm choice url server identity = SuitNtlm server identity
  Needs Kerberos choices.Ntlm url server identity = HasFirstKey told call url identity.username ×
      SuitNtlm server identity
  Needs Kerberos choices.Kerberos url server identity =
      HasSessionKey told call url identity.username (ticket_of server)
  Needs Kerberos choices.MsKerberos url server identity =
      HasSessionKey told call url identity.username (ticket_of server)

  -- Each end has an initially selected mechanism, the server picks from what the client offers, and
  -- they have what they need. The KDC exposes its replies by the number of the call, and `call` is
  -- the number of the next one.
  pub record AreNegotiating (client server : NegotiateConfig) (target : List ℕ)
      (identity : AuthIdentity) : Type 0 where
    pub client_hand : Origin
    pub server_hand : Origin
    pub client_first : first_in_hand Client client ≡ Ok client_hand
    pub server_first : first_in_hand Server server ≡ Ok server_hand
    -- whether the target is named by its IP address
    pub ip : Bool
    pub ip_is : IsTrue ip ↔ IsNamedByIp (Some target)
    pub begins : Protocol
    pub begins_is : begins ≡ begins_with ip (packages_in client) (protocol_of client_hand)
        (url_for client.kdcs (domain_of identity.username))
    pub picked : Picked
    pub picks : pick (offered begins (packages_in client)) (packages_in server)
        (protocol_of server_hand) ≡ Some picked
    pub needs : Needs begins picked.choice (kdc_url client client_hand identity.username)
        server_hand identity

-- how many messages the client makes
abbrev pub messages_by : Protocol → Choice → ℕ
messages_by Ntlm choice = 4
messages_by Kerberos choices.Ntlm = 5
messages_by Kerberos choices.Kerberos = 4
messages_by Kerberos choices.MsKerberos = 4
