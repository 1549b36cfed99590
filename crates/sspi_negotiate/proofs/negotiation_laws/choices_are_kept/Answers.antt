use Rattle.sspi_negotiate.specs.Hand.{hand}
use Rattle.sspi_negotiate.specs.Values.{values_of}
use Rattle.sspi_negotiate.proofs.Choosing.{made_unless, unless_map, client_decides}
use Rattle.sspi_negotiate.proofs.negotiation_laws.choices_are_kept.Goals as goal

pub returns-clause-disables : goal.returns-clause-disables
returns-clause-disables g c = λ old new args answer protocol s at is. made_unless _ answer (λ f. unless_map answer (λ h. h.0)
    ((client_decides (hand g.N.Mechanism.meaning g.K.Mechanism.meaning) protocol (values_of old) args is s.ip old.mech at).ends
    new.mech answer (values_of new) f)) s.moves.follows.as_planned

pub returns-clause-refused : goal.returns-clause-refused
returns-clause-refused g c = λ old new args answer protocol s at is off. made_unless _ answer (λ f. unless_map answer (λ h. h.1 off)
    ((client_decides (hand g.N.Mechanism.meaning g.K.Mechanism.meaning) protocol (values_of old) args is s.ip old.mech at).ends
    new.mech answer (values_of new) f)) s.moves.follows.as_planned
