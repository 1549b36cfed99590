-- What the call that makes a server does.
use Rattle.std.specs.Prelude.{◌≡◌, ◌≢◌, ℕ, ◌==◌, List, replicate, Option, None, Some, Result, Ok}
use Rattle.std.specs.Prelude.{Err, if◌then◌else◌}
use Rattle.sspi_names.specs.declared.identity.AuthIdentity.{AuthIdentity}
use Rattle.newaksu_c.specs.declared.object.Object.{Object}
use Rattle.newaksu_c.specs.declared.object.Object.TheVariants.{Client, Server, PlainClient}
use Rattle.newaksu_c.specs.declared.object.Object.TheVariants.{PlainServer, Course}
use Rattle.newaksu_c.specs.declared.object.Object.TheVariants.{Request, Reader, Init, Targ}
use Rattle.newaksu_c.specs.declared.object.Object.TheVariants.{Credentials, Identities}
use Rattle.newaksu_c.specs.declared.settings.ServerOptions.{ServerOptions}
use Rattle.newaksu_c.specs.Held.{identities_in}
use Rattle.newaksu_c.specs.Making.{IsNewServer}
use Rattle.newaksu_c.specs.Settings.{challenge_of, check_versions, server_settings, ◌then_with◌}
use Rattle.newaksu_c.specs.Status.{insufficient_memory, invalid_handle, invalid_parameter}

-- the peers of a list need a list
abbrev pub listed_peers : Option (List AuthIdentity) → Result (Unit {0}) ℕ
listed_peers None = Err invalid_handle
listed_peers (Some list) = Ok tt

-- accepting anyone excludes a list
abbrev pub any_peer : Option Object → Result (Unit {0}) ℕ
any_peer None = Ok tt
any_peer (Some object) = Err invalid_parameter

-- over the host's mechanism the options choose: 0 for the list alone, 1 for anyone whom it names
abbrev pub hosted_peers : ℕ → Option Object → Result (Unit {0}) ℕ
hosted_peers choice known =
    if choice == 0 then listed_peers (identities_in known) else if choice == 1 then any_peer known
    else Err invalid_parameter

-- the list that is chosen, or anyone
abbrev pub taken_peers : ℕ → Option Object → Option (List AuthIdentity)
taken_peers choice known = if choice == 0 then identities_in known else None

-- over plain NTLM the list must be chosen and given, and the challenge has eight bytes
abbrev pub plain_listed : Option (List AuthIdentity) → Result (List ℕ) ℕ → Result (List ℕ) ℕ
plain_listed None challenge = Err invalid_handle
plain_listed (Some list) challenge = challenge

abbrev pub plain_fault : ℕ → Option (List AuthIdentity) → Result (List ℕ) ℕ → Result (List ℕ) ℕ
plain_fault choice list challenge = if choice == 0 then plain_listed list challenge
    else Err invalid_parameter

-- its own version, and the least that it accepts of a client
abbrev pub of_versions : ServerOptions → Result (Unit {0}) ℕ
of_versions options = check_versions options.version options.least_version

-- why there is no server, by the number of the mechanism
abbrev pub IsServerFault : ℕ → Result (Unit {0}) ℕ → Result (List ℕ) ℕ → ℕ → Type 0
IsServerFault mechanism hosted plain status =
    (mechanism ≡ 0 → hosted ≡ Err status) × (mechanism ≡ 1 → plain ≡ Err status)
    × (mechanism ≢ 0 → mechanism ≢ 1 → status ≡ invalid_parameter)

abbrev pub MakesServer : ServerOptions → List ℕ → List ℕ → Option Object → Result Object ℕ → Type 0
MakesServer options key challenge known (Ok (Server end)) = (options.mechanism ≡ 0) ×
    (of_versions options ≡ Ok tt) ×
    (hosted_peers options.peers known ≡ Ok tt) ×
    IsNewServer (server_settings options key (replicate 8 0)) (taken_peers options.peers known)
    end.value.server end.value.last
MakesServer options key challenge known (Ok (PlainServer end)) = (options.mechanism ≡ 1) ×
    (of_versions options ≡ Ok tt) ×
    (options.peers ≡ 0) × ((bytes : List ℕ) × (challenge_of challenge ≡ Ok bytes) ×
    IsNewServer (server_settings options key bytes) (identities_in known) end.value.server
    end.value.last)
MakesServer options key challenge known (Ok (Request r)) = ⊥
MakesServer options key challenge known (Ok (Reader r)) = ⊥
MakesServer options key challenge known (Ok (Init t)) = ⊥
MakesServer options key challenge known (Ok (Targ t)) = ⊥
MakesServer options key challenge known (Ok (Credentials c)) = ⊥
MakesServer options key challenge known (Ok (Identities l)) = ⊥
MakesServer options key challenge known (Ok (Client e)) = ⊥
MakesServer options key challenge known (Ok (PlainClient e)) = ⊥
MakesServer options key challenge known (Ok (Course c)) = ⊥
MakesServer options key challenge known (Err status) = status ≢ insufficient_memory →
    IsServerFault options.mechanism (of_versions options then_with λ _. hosted_peers options.peers
    known)
    (of_versions options then_with λ _. plain_fault options.peers (identities_in known)
    (challenge_of challenge)) status
