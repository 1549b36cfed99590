-- The two ends that a scenario names.
use Rattle.std.specs.Prelude.{◌≡◌, ℕ, List, [], Option, None, Some, replicate}
use Rattle.sspi_names.specs.declared.credentials.Credentials.{Credentials}
use Rattle.sspi_names.specs.declared.credentials.Credentials.TheVariants.{AuthIdentity, Keytab}
use Rattle.sspi_names.specs.declared.username.Username.{Username}
use Rattle.sspi_mech.specs.KerberosStage.{KerberosState}
use Rattle.sspi_mech.specs.NtlmStage.{NtlmState}
use Rattle.sspi_mech.specs.PlainKdc.{PlainKdcState}
use Rattle.sspi_mech.specs.declared.config.KerberosConfig.{KerberosConfig}
use Rattle.sspi_mech.specs.declared.config.NtlmConfig.{NtlmConfig}
use Rattle.sspi_negotiate.specs.declared.negotiate_config.NegotiateConfig.{NegotiateConfig}
use Rattle.sspi_negotiate.specs.declared.protocol_config.ProtocolConfig.{ProtocolConfig}
use Rattle.sspi_negotiate.specs.declared.protocol_config.ProtocolConfig.TheVariants as protocol
use Rattle.sspi_credssp.specs.declared.context.SspiContext.{SspiContext}
use Rattle.sspi_credssp.specs.declared.mode.ClientMode.{ClientMode}
use Rattle.sspi_credssp.specs.declared.mode.ClientMode.TheVariants as client
use Rattle.sspi_credssp.specs.declared.mode.ServerMode.{ServerMode}
use Rattle.sspi_credssp.specs.declared.mode.ServerMode.TheVariants as server
use Rattle.sspi_credssp.specs.Ends.{ClientSettings, ClientView, ServerSettings, ServerView}
use Rattle.sspi_credssp.specs.Table.{TableView}
use Rattle.sspi_delegate.specs.Link.{MemoryLinkView}
use Rattle.sspi_scenario.specs.declared.scenario.Mode.{Mode}
use Rattle.sspi_scenario.specs.declared.scenario.Mode.TheVariants as mode
use Rattle.sspi_scenario.specs.declared.scenario.Package.{Package}
use Rattle.sspi_scenario.specs.declared.scenario.Package.TheVariants as packages
use Rattle.sspi_scenario.specs.declared.scenario.Scenario.{Scenario}

-- a context of either end
abbrev pub PlainContext : Type 0
PlainContext = SspiContext NtlmState KerberosState

-- the user's credentials: the keytab if there is one, otherwise the password
abbrev pub credentials_by : Option (List ℕ) → Username → List ℕ → Credentials
credentials_by None user password = AuthIdentity
    (record { username = user; password = record { value = password } })
credentials_by (Some keytab) user password = Keytab (record { username = user; keytab = keytab })

abbrev pub credentials_in : Scenario → Credentials
credentials_in scenario = credentials_by scenario.keytab scenario.user scenario.password

-- the configuration of an end that begins with this mechanism and may use these packages
abbrev pub negotiate_config_in : Scenario → ProtocolConfig → Option (List ℕ) → NegotiateConfig
negotiate_config_in scenario first list = record {
  protocol_config = first;
  package_list = list;
  client_computer_name = scenario.computer;
  kdcs = scenario.kdc;
}

-- the client's NTLM knows its computer, and the server's has the challenge
abbrev pub client_ntlm : Scenario → NtlmConfig
client_ntlm scenario = record {
  client_computer_name = Some scenario.computer;
  challenge = replicate 8 0;
}

abbrev pub server_ntlm : Scenario → NtlmConfig
server_ntlm scenario = record { client_computer_name = None; challenge = scenario.challenge }

-- The client's Kerberos asks the KDC at the URL of the scenario, or that of its realm; the server's
-- asks nobody.
abbrev pub kerberos_config : Scenario → Option (List ℕ) → KerberosConfig
kerberos_config scenario url = record {
  kdc_url = url;
  kdcs = scenario.kdc;
  client_computer_name = scenario.computer;
}

abbrev pub client_kerberos : Scenario → KerberosConfig
client_kerberos scenario = kerberos_config scenario scenario.client_url

abbrev pub server_kerberos : Scenario → KerberosConfig
server_kerberos scenario = kerberos_config scenario None

-- the mechanism that each end of a negotiation begins with; the server's Kerberos has the ticket
abbrev pub client_first : Package → Scenario → ProtocolConfig
client_first packages.Ntlm scenario = protocol.Ntlm (client_ntlm scenario)
client_first packages.Kerberos scenario = protocol.Kerberos (client_kerberos scenario)

abbrev pub server_first : Package → Scenario → ProtocolConfig
server_first packages.Ntlm scenario = protocol.Ntlm (server_ntlm scenario)
server_first packages.Kerberos scenario = protocol.KerberosServer (server_kerberos scenario)
    (record { ticket = scenario.ticket })

-- how each end authenticates: by NTLM alone, or by a negotiation
abbrev pub client_mode_by : Mode → Scenario → ClientMode
client_mode_by mode.Ntlm scenario = client.Ntlm (client_ntlm scenario)
client_mode_by mode.Negotiate scenario =
    client.Negotiate (negotiate_config_in scenario (client_first scenario.client_protocol scenario)
    scenario.client_packages)

abbrev pub client_mode_in : Scenario → ClientMode
client_mode_in scenario = client_mode_by scenario.mode scenario

abbrev pub server_mode_by : Mode → Scenario → ServerMode
server_mode_by mode.Ntlm scenario = server.Ntlm (server_ntlm scenario)
server_mode_by mode.Negotiate scenario =
    server.Negotiate (negotiate_config_in scenario (server_first scenario.server_protocol scenario)
    scenario.server_packages)

abbrev pub server_mode_in : Scenario → ServerMode
server_mode_in scenario = server_mode_by scenario.mode scenario

abbrev pub client_settings_in : Scenario → ClientSettings
client_settings_in scenario = record {
  public_key = scenario.key;
  credentials = credentials_in scenario;
  delegation = scenario.delegation;
  version = scenario.client_version;
  least = scenario.client_least;
  mode = client_mode_in scenario;
  target = scenario.target;
  nonce = scenario.nonce;
}

abbrev pub server_settings_in : Scenario → ServerSettings
server_settings_in scenario = record {
  public_key = scenario.server_key;
  version = scenario.server_version;
  least = scenario.server_least;
  mode = server_mode_in scenario;
}

-- the client has what the scenario names
abbrev pub IsClientOf : Scenario → ClientView PlainContext → Type 0
IsClientOf scenario a = a.settings ≡ client_settings_in scenario

-- the server has what the scenario names, including a table on which no call was made
pub record IsServerOf (scenario : Scenario) (a : ServerView PlainContext TableView) : Type 0 where
  pub settings : a.settings ≡ server_settings_in scenario
  pub proxy : a.proxy ≡ record {
    entries = scenario.account;
    failing = scenario.proxy_fail;
    calls = 0;
    faults = 0;
  }

-- the link has the scenario's edits, and has carried nothing yet
abbrev pub link_in : Scenario → MemoryLinkView
link_in scenario = record { log = []; edits = scenario.edit; faults = 0; most = None }

-- the KDC knows the scenario's names and answers by its script, and has not been asked yet
abbrev pub kdc_in : Scenario → PlainKdcState
kdc_in scenario = record {
  users = scenario.kdc_user;
  script = scenario.kdc_answer;
  asked = 0;
  faults = 0;
}
