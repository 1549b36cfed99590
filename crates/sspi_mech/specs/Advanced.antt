-- To which stage a Kerberos client advances that has its name.
use Rattle.sspi_mech.specs.declared.kerberos.stage.Stage.{Stage}
use Rattle.sspi_mech.specs.declared.kerberos.stage.Stage.TheVariants.{Unused, PairingAsked}
use Rattle.sspi_mech.specs.declared.kerberos.stage.Stage.TheVariants.{TicketAsked, LogonAsked}
use Rattle.sspi_mech.specs.declared.kerberos.stage.Stage.TheVariants.{SessionAsked}
use Rattle.sspi_mech.specs.declared.kerberos.stage.Stage.TheVariants.{SessionSent, Ended}
use Rattle.sspi_mech.specs.declared.kerberos.stage.Stage.TheVariants.{TicketSent, Accepted}

-- the next stage of a client that has its name; every other stage stays
abbrev pub advanced : Stage → Stage
advanced Unused = Unused
advanced PairingAsked = PairingAsked
advanced (TicketAsked key) = TicketAsked key
advanced (LogonAsked name) = SessionAsked name
advanced (SessionAsked name) = SessionSent name
advanced (SessionSent name) = Ended name
advanced (Ended name) = Ended name
advanced TicketSent = TicketSent
advanced (Accepted peer) = Accepted peer
