use Rattle.sspi_negotiate.specs.Does.{told}
use Rattle.sspi_negotiate.specs.Hand.{hand}
use Rattle.sspi_negotiate.specs.Values.{values_of}
use Rattle.sspi_negotiate.proofs.Lives.{lives_on}
use Rattle.sspi_negotiate.proofs.negotiation_laws.hand_is_kept.Goals as goal

pub returns-clause-client : goal.returns-clause-client
returns-clause-client g c = λ old new args answer s. s.held

pub returns-clause-client_keeps : goal.returns-clause-client_keeps
returns-clause-client_keeps g c = λ old new args answer s. s.kept

pub returns-clause-resumed : goal.returns-clause-resumed
returns-clause-resumed g c = λ old new reply answer s. s.protected.picked

pub returns-clause-resumed_keeps : goal.returns-clause-resumed_keeps
returns-clause-resumed_keeps g c = λ old new reply answer s. s.protected.kept

pub returns-clause-server : goal.returns-clause-server
returns-clause-server g c = λ old new args result s. s.picked

pub returns-clause-server_configured : goal.returns-clause-server_configured
returns-clause-server_configured g c = λ old new args result s. s.configured

pub returns-clause-server_lives : goal.returns-clause-server_lives
returns-clause-server_lives g c = λ old new args result s late. lives_on (hand g.N.Mechanism.meaning g.K.Mechanism.meaning) args old.mech
    new.mech (told result) (values_of old) late s.moves.follows.reached
