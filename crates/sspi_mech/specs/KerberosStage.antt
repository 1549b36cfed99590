-- How far a Kerberos object has come.
use Rattle.std.specs.Prelude.{ℕ, Bool, true, false, List, Option, None, Some}
use Rattle.sspi_names.specs.Name.{Name}
use Rattle.sspi_mech.specs.declared.kerberos.realms.Realms.{Realms}
use Rattle.sspi_mech.specs.declared.kerberos.stage.Stage.{Stage}
use Rattle.sspi_mech.specs.declared.kerberos.stage.Stage.TheVariants.{Unused, PairingAsked}
use Rattle.sspi_mech.specs.declared.kerberos.stage.Stage.TheVariants.{TicketAsked, LogonAsked}
use Rattle.sspi_mech.specs.declared.kerberos.stage.Stage.TheVariants.{SessionAsked}
use Rattle.sspi_mech.specs.declared.kerberos.stage.Stage.TheVariants.{SessionSent, Ended}
use Rattle.sspi_mech.specs.declared.kerberos.stage.Stage.TheVariants.{TicketSent, Accepted}
use Rattle.sspi_mech.specs.declared.protection.Direction.{Direction}
use Rattle.sspi_mech.specs.declared.protection.Direction.TheVariants.{FromClient, FromServer}
use Rattle.sspi_mech.specs.declared.protection.Protection.{Protection}

-- an object: its KDCs and its configuration's ticket, how far it has come, its key and its counts
pub record KerberosState : Type 0 where
  pub realms : Realms
  pub ticket : Option (List ℕ)
  pub stage : Stage
  pub protection : Protection

-- an object that took a session key is the server; any other that has a key is the client
abbrev pub own_direction : Stage → Direction
own_direction Unused = FromClient
own_direction PairingAsked = FromClient
own_direction (TicketAsked key) = FromClient
own_direction (LogonAsked name) = FromClient
own_direction (SessionAsked name) = FromClient
own_direction (SessionSent name) = FromClient
own_direction (Ended name) = FromClient
own_direction TicketSent = FromClient
own_direction (Accepted peer) = FromServer

abbrev pub peer_direction : Stage → Direction
peer_direction Unused = FromServer
peer_direction PairingAsked = FromServer
peer_direction (TicketAsked key) = FromServer
peer_direction (LogonAsked name) = FromServer
peer_direction (SessionAsked name) = FromServer
peer_direction (SessionSent name) = FromServer
peer_direction (Ended name) = FromServer
peer_direction TicketSent = FromServer
peer_direction (Accepted peer) = FromClient

-- the name of the client: a client has it once it sent it, and a server once it took it
abbrev pub name_at : Stage → Option Name
name_at Unused = None
name_at PairingAsked = None
name_at (TicketAsked key) = None
name_at (LogonAsked name) = None
name_at (SessionAsked name) = None
name_at (SessionSent name) = Some name
name_at (Ended name) = Some name
name_at TicketSent = None
name_at (Accepted peer) = Some peer.name

-- whether a step waits for a reply of the KDC
abbrev pub waits_at : Stage → Bool
waits_at Unused = false
waits_at PairingAsked = true
waits_at (TicketAsked key) = false
waits_at (LogonAsked name) = true
waits_at (SessionAsked name) = true
waits_at (SessionSent name) = false
waits_at (Ended name) = false
waits_at TicketSent = false
waits_at (Accepted peer) = false

-- how many requests to a KDC may still be made
abbrev pub left_at : Stage → ℕ
left_at Unused = 2
left_at PairingAsked = 1
left_at (TicketAsked key) = 1
left_at (LogonAsked name) = 1
left_at (SessionAsked name) = 0
left_at (SessionSent name) = 0
left_at (Ended name) = 0
left_at TicketSent = 0
left_at (Accepted peer) = 0

-- whether it is a server that has sent its ticket
abbrev pub pairs_at : Stage → Bool
pairs_at Unused = false
pairs_at PairingAsked = false
pairs_at (TicketAsked key) = false
pairs_at (LogonAsked name) = false
pairs_at (SessionAsked name) = false
pairs_at (SessionSent name) = false
pairs_at (Ended name) = false
pairs_at TicketSent = true
pairs_at (Accepted peer) = peer.user_to_user
