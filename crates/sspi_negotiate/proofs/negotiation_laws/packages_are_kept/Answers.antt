use Rattle.sspi_negotiate.specs.Does.{told}
use Rattle.sspi_negotiate.specs.Hand.{hand}
use Rattle.sspi_negotiate.specs.Values.{values_of}
use Rattle.sspi_negotiate.proofs.Follow.{unless_map}
use Rattle.sspi_negotiate.proofs.Keeping.{client_keeps, resumed_keeps, server_keeps, packages_kept, waiting_keeps}
use Rattle.sspi_negotiate.proofs.negotiation_laws.packages_are_kept.Goals as goal

pub returns-clause-client : goal.returns-clause-client
returns-clause-client g c = λ old new args answer s. packages_kept _ answer (values_of old) (values_of new)
    (unless_map answer (λ f.
    (client_keeps (hand g.N.Mechanism.meaning g.K.Mechanism.meaning) old.mech (values_of old) s.ip args).ends new.mech answer
    (values_of new) f) s.moves.follows.as_planned) (λ kept. kept.packages) s.moves.stays

pub returns-clause-resumed : goal.returns-clause-resumed
returns-clause-resumed g c = λ old new reply answer s. packages_kept _ answer (values_of old) (values_of new)
    (unless_map answer (λ f.
    (resumed_keeps (hand g.N.Mechanism.meaning g.K.Mechanism.meaning) old.mech (values_of old) reply).ends new.mech answer
    (values_of new) f) s.follows.as_planned) (λ kept. waiting_keeps old new kept.waits) s.stays

pub returns-clause-server : goal.returns-clause-server
returns-clause-server g c = λ old new args result s. packages_kept _ (told result) (values_of old) (values_of new)
    (unless_map (told result) (λ f.
    (server_keeps (hand g.N.Mechanism.meaning g.K.Mechanism.meaning) old.mech (values_of old) args).ends new.mech (told result)
    (values_of new) f) s.moves.follows.as_planned) (λ kept. kept.packages) s.moves.stays
