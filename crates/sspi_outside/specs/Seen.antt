-- An envelope that was read, without its references.
use Rattle.sspi_outside.specs.declared.envelope.Envelope.{Envelope}
use Rattle.sspi_outside.specs.declared.envelope.Envelope.TheVariants as read
use Rattle.sspi_outside.specs.Envelope.{Said, Ended, GoesOn, UserToUser, Denied, Unsaid}

abbrev pub seen : Envelope → Said
seen (read.Ended token) = Ended token.now
seen (read.GoesOn token) = GoesOn token.now
seen (read.UserToUser token) = UserToUser token.now
seen (read.Denied code) = Denied code
seen read.Unsaid = Unsaid
