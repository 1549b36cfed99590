-- How far an NTLM object has come.
use Rattle.std.specs.Prelude.{ℕ, List, Option, None, Some}
use Rattle.sspi_names.specs.Name.{Name}
use Rattle.sspi_mech.specs.declared.ntlm.stage.Stage.{Stage}
use Rattle.sspi_mech.specs.declared.ntlm.stage.Stage.TheVariants.{Unused, NegotiateSent}
use Rattle.sspi_mech.specs.declared.ntlm.stage.Stage.TheVariants.{AuthenticateSent, ChallengeSent}
use Rattle.sspi_mech.specs.declared.ntlm.stage.Stage.TheVariants.{Claimed}
use Rattle.sspi_mech.specs.declared.protection.Direction.{Direction}
use Rattle.sspi_mech.specs.declared.protection.Direction.TheVariants.{FromClient, FromServer}
use Rattle.sspi_mech.specs.declared.protection.Protection.{Protection}

-- an object: the challenge of its configuration, how far it has come, its key and its counts
pub record NtlmState : Type 0 where
  pub challenge : List ℕ
  pub stage : Stage
  pub protection : Protection

-- the end that has a claim is the server; any other that has a key is the client
abbrev pub own_direction : Stage → Direction
own_direction Unused = FromClient
own_direction NegotiateSent = FromClient
own_direction (AuthenticateSent name) = FromClient
own_direction ChallengeSent = FromClient
own_direction (Claimed claim) = FromServer

abbrev pub peer_direction : Stage → Direction
peer_direction Unused = FromServer
peer_direction NegotiateSent = FromServer
peer_direction (AuthenticateSent name) = FromServer
peer_direction ChallengeSent = FromServer
peer_direction (Claimed claim) = FromClient

-- the name of the client, as each end knows it
abbrev pub name_at : Stage → Option Name
name_at Unused = None
name_at NegotiateSent = None
name_at (AuthenticateSent name) = Some name
name_at ChallengeSent = None
name_at (Claimed claim) = Some claim.name
