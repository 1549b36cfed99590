use Rattle.std.proofs.Common.{subst}
use Rattle.sspi_tsreq.specs.declared.place.Place.{Place}
use Rattle.sspi_tsreq.specs.Quiet.{Opened}
use Rattle.sspi_tsreq.proofs.walk.Walk.step.Goals as goal

pub returns-in-InLength-clause-quiet : goal.returns-in-InLength-clause-quiet
returns-in-InLength-clause-quiet c = λ quiet other without.
    let q = c.length_byte.ensures.quiet quiet (subst (λ (p : Place). Opened p → ⊥) c.in-InLength.is quiet.0) in
    (q.0, q.1 without)
