-- The calls that make ends which negotiate over two mechanisms of the host.
use Rattle.std.specs.Prelude.{◌≡◌, ◌≢◌, ℕ, List, replicate, Option, Result, Ok, Err}
use Rattle.sspi_credssp.specs.Ends.{ClientSettings, ServerSettings}
use Rattle.sspi_credssp.specs.declared.mode.ClientMode.TheVariants as client
use Rattle.sspi_credssp.specs.declared.mode.ServerMode.TheVariants as server
use Rattle.sspi_negotiate.specs.declared.package_list.PackageListConfig.{PackageListConfig}
use Rattle.sspi_outside.specs.Configured.{configured}
use Rattle.newaksu_c.specs.declared.object.Object.{Object}
use Rattle.newaksu_c.specs.declared.object.Object.TheVariants.{Request, Reader, Init, Targ}
use Rattle.newaksu_c.specs.declared.object.Object.TheVariants.{Credentials, Identities}
use Rattle.newaksu_c.specs.declared.object.Object.TheVariants.{Client, Server, PlainClient}
use Rattle.newaksu_c.specs.declared.object.Object.TheVariants.{PlainServer, Course}
use Rattle.newaksu_c.specs.declared.settings.ClientOptions.{ClientOptions}
use Rattle.newaksu_c.specs.declared.settings.ServerOptions.{ServerOptions}
use Rattle.newaksu_c.specs.Courses.{packages_by}
use Rattle.newaksu_c.specs.Making.{IsNewClient, IsNewServer}
use Rattle.newaksu_c.specs.MakingServers.{hosted_peers, of_versions, taken_peers}
use Rattle.newaksu_c.specs.Settings.{client_settings, server_settings, ◌then_with◌}
use Rattle.newaksu_c.specs.Status.{insufficient_memory}

-- the settings of a client without SPNEGO, except that it negotiates these mechanisms
abbrev pub client_with : PackageListConfig → ClientSettings → ClientSettings
client_with packages s = record s { mode = client.Negotiate (configured packages) }

abbrev pub settings_with : PackageListConfig → ClientOptions → List ℕ → List ℕ → List ℕ → List ℕ →
    List ℕ → Result ClientSettings ℕ
settings_with packages options key target nonce name password =
    client_settings options key target nonce name password then_with λ s. Ok
    (client_with packages s)

abbrev pub negotiating_client : ClientOptions → List ℕ → List ℕ → List ℕ → List ℕ → List ℕ →
    Result ClientSettings ℕ
negotiating_client options key target nonce name password =
    packages_by options.mechanism then_with λ packages. settings_with packages options key target
    nonce name password

abbrev pub MakesNegotiating : Result ClientSettings ℕ → Result Object ℕ → Type 0
MakesNegotiating settings (Ok (Client end)) = IsNewClient settings end.value.client end.value.last
MakesNegotiating settings (Ok (Request r)) = ⊥
MakesNegotiating settings (Ok (Reader r)) = ⊥
MakesNegotiating settings (Ok (Init t)) = ⊥
MakesNegotiating settings (Ok (Targ t)) = ⊥
MakesNegotiating settings (Ok (Credentials c)) = ⊥
MakesNegotiating settings (Ok (Identities l)) = ⊥
MakesNegotiating settings (Ok (Server e)) = ⊥
MakesNegotiating settings (Ok (PlainClient e)) = ⊥
MakesNegotiating settings (Ok (PlainServer e)) = ⊥
MakesNegotiating settings (Ok (Course c)) = ⊥
MakesNegotiating settings (Err status) = status ≢ insufficient_memory → settings ≡ Err status

-- the same for a server
abbrev pub server_with : PackageListConfig → ServerSettings → ServerSettings
server_with packages s = record s { mode = server.Negotiate (configured packages) }

abbrev pub server_fault : ServerOptions → Option Object → Result (Unit {0}) ℕ
server_fault options known =
    packages_by options.mechanism then_with λ _.
    of_versions options then_with λ _. hosted_peers options.peers known

abbrev pub MakesNegotiatingServer : ServerOptions → List ℕ → Option Object → Result Object ℕ →
    Type 0
MakesNegotiatingServer options key known (Ok (Server end)) =
    (packages : PackageListConfig) × (packages_by options.mechanism ≡ Ok packages) ×
    (of_versions options ≡ Ok tt) ×
    (hosted_peers options.peers known ≡ Ok tt) ×
    IsNewServer (server_with packages (server_settings options key (replicate 8 0)))
    (taken_peers options.peers known)
    end.value.server end.value.last
MakesNegotiatingServer options key known (Ok (Request r)) = ⊥
MakesNegotiatingServer options key known (Ok (Reader r)) = ⊥
MakesNegotiatingServer options key known (Ok (Init t)) = ⊥
MakesNegotiatingServer options key known (Ok (Targ t)) = ⊥
MakesNegotiatingServer options key known (Ok (Credentials c)) = ⊥
MakesNegotiatingServer options key known (Ok (Identities l)) = ⊥
MakesNegotiatingServer options key known (Ok (Client e)) = ⊥
MakesNegotiatingServer options key known (Ok (PlainClient e)) = ⊥
MakesNegotiatingServer options key known (Ok (PlainServer e)) = ⊥
MakesNegotiatingServer options key known (Ok (Course c)) = ⊥
MakesNegotiatingServer options key known (Err status) = status ≢ insufficient_memory →
    server_fault options known ≡ Err status
