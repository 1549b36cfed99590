use Rattle.std.proofs.Common.{◌∙◌}
use Rattle.sspi_negotiate.proofs.Ending.{client_ended, resumed_ended, server_ended, server_ended_before}
use Rattle.sspi_negotiate.proofs.negotiation_laws.mics_protect_the_list.Goals as goal

pub returns-clause-client : goal.returns-clause-client
returns-clause-client g c = λ old new args step s over need.
    client_ended g.N.Mechanism.meaning g.K.Mechanism.meaning old new args step s over need

pub returns-clause-resumed : goal.returns-clause-resumed
returns-clause-resumed g c = λ old new reply step before s over need.
    resumed_ended g.N.Mechanism.meaning g.K.Mechanism.meaning old new reply step before s.follows over need

pub returns-clause-server : goal.returns-clause-server
returns-clause-server g c = λ old new args step s over need.
    server_ended g.N.Mechanism.meaning g.K.Mechanism.meaning old new args step s over need

pub returns-clause-client_before : goal.returns-clause-client_before
returns-clause-client_before g c = λ old new args step s over late need unexcused.
    client_ended g.N.Mechanism.meaning g.K.Mechanism.meaning old new args step s over (s.moves.protected late need unexcused)

pub returns-clause-resumed_before : goal.returns-clause-resumed_before
returns-clause-resumed_before g c = λ old new reply step before s over need.
    resumed_ended g.N.Mechanism.meaning g.K.Mechanism.meaning old new reply step before s.follows over (s.protected.need ∙ need)

pub returns-clause-server_before : goal.returns-clause-server_before
returns-clause-server_before g c = λ old new args step s over late need.
    server_ended_before g.N.Mechanism.meaning g.K.Mechanism.meaning old new args step s over late need
