-- What the calls that make an end do.
use Rattle.std.specs.Prelude.{◌≡◌, ◌≢◌, ℕ, ◌==◌, List, [], Option, None, Some, Result, Ok, Err}
use Rattle.std.specs.Prelude.{if◌then◌else◌}
use Rattle.sspi_names.specs.declared.identity.AuthIdentity.{AuthIdentity}
use Rattle.sspi_credssp.specs.Ends.{ClientSettings, ClientView, IsFreshClient, ServerSettings}
use Rattle.sspi_credssp.specs.Ends.{ServerView, IsFreshServer}
use Rattle.sspi_outside.specs.declared.last.Last.{Last}
use Rattle.sspi_outside.specs.declared.last.Last.TheVariants.{Nothing}
use Rattle.sspi_outside.specs.declared.peers.Peers.{Peers}
use Rattle.sspi_outside.specs.declared.peers.Peers.TheVariants.{Listed, Anyone}
use Rattle.newaksu_c.specs.declared.object.Object.{Object}
use Rattle.newaksu_c.specs.declared.object.Object.TheVariants.{Client, Server, PlainClient}
use Rattle.newaksu_c.specs.declared.object.Object.TheVariants.{PlainServer, Course}
use Rattle.newaksu_c.specs.declared.object.Object.TheVariants.{Request, Reader, Init, Targ}
use Rattle.newaksu_c.specs.declared.object.Object.TheVariants.{Credentials, Identities}
use Rattle.newaksu_c.specs.Status.{insufficient_memory, invalid_parameter}

-- a client that has made no call, with these settings
pub record IsNewClient {C : Type 0} (settings : Result ClientSettings ℕ) (client : ClientView C)
    (last : Last) : Type 0 where
  pub fresh : IsFreshClient client
  pub settled : settings ≡ Ok client.settings
  pub unused : last ≡ Nothing

-- the mechanism by its number: the host's, or plain NTLM
abbrev pub settings_for : ℕ → Result ClientSettings ℕ → Result ClientSettings ℕ
settings_for mechanism settings =
    if mechanism == 0 then settings else if mechanism == 1 then settings else Err invalid_parameter

abbrev pub MakesClient : ℕ → Result ClientSettings ℕ → Result Object ℕ → Type 0
MakesClient mechanism settings (Ok (Client end)) = (mechanism ≡ 0) ×
    IsNewClient settings end.value.client end.value.last
MakesClient mechanism settings (Ok (PlainClient end)) = (mechanism ≡ 1) ×
    IsNewClient settings end.value.client end.value.last
MakesClient mechanism settings (Ok (Request r)) = ⊥
MakesClient mechanism settings (Ok (Reader r)) = ⊥
MakesClient mechanism settings (Ok (Init t)) = ⊥
MakesClient mechanism settings (Ok (Targ t)) = ⊥
MakesClient mechanism settings (Ok (Credentials c)) = ⊥
MakesClient mechanism settings (Ok (Identities l)) = ⊥
MakesClient mechanism settings (Ok (Server e)) = ⊥
MakesClient mechanism settings (Ok (PlainServer e)) = ⊥
MakesClient mechanism settings (Ok (Course c)) = ⊥
MakesClient mechanism settings (Err status) = status ≢ insufficient_memory →
    settings_for mechanism settings ≡ Err status

-- the peers that a server accepts: those of the list, or, without one, anyone whom the host's
-- mechanism names
abbrev pub ArePeers : Option (List AuthIdentity) → Peers → Type 0
ArePeers (Some list) (Listed table) = table ≡ record {
  entries = list;
  failing = [];
  calls = 0;
  faults = 0;
}
ArePeers (Some list) (Anyone peer) = ⊥
ArePeers None (Listed table) = ⊥
ArePeers None (Anyone peer) = peer.calls ≡ 0

-- a server that has made no call, with these settings and peers
pub record IsNewServer {C : Type 0} (settings : ServerSettings) (known : Option (List AuthIdentity))
    (server : ServerView C Peers)
    (last : Last) : Type 0 where
  pub fresh : IsFreshServer server
  pub settled : server.settings ≡ settings
  pub peers : ArePeers known server.proxy
  pub unused : last ≡ Nothing
