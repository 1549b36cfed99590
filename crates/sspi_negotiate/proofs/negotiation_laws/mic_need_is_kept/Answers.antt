use Rattle.sspi_negotiate.proofs.Ending.{server_needs}
use Rattle.sspi_negotiate.proofs.negotiation_laws.mic_need_is_kept.Goals as goal

pub returns-clause-client : goal.returns-clause-client
returns-clause-client g c = λ old new args answer s. s.moves.protected

pub returns-clause-client_first : goal.returns-clause-client_first
returns-clause-client_first g c = λ old new args answer s. s.asked

pub returns-clause-resumed : goal.returns-clause-resumed
returns-clause-resumed g c = λ old new reply answer s. s.protected.need

pub returns-clause-server : goal.returns-clause-server
returns-clause-server g c = λ old new args result s. s.moves.protected

pub returns-clause-server_done : goal.returns-clause-server_done
returns-clause-server_done g c = λ old new args step s late need.
    server_needs g.N.Mechanism.meaning g.K.Mechanism.meaning old new args step s late need
