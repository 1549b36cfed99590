use Rattle.sspi_negotiate.proofs.negotiation_laws.refusals_are_exact.Goals as goal

pub returns-clause-client : goal.returns-clause-client
returns-clause-client g c = λ old new args answer s. s.moves.exact

pub returns-clause-resumed : goal.returns-clause-resumed
returns-clause-resumed g c = λ old new reply answer s. s.exact

pub returns-clause-server : goal.returns-clause-server
returns-clause-server g c = λ old new args result s. s.moves.exact
