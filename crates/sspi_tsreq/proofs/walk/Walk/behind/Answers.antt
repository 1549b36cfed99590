use Rattle.std.proofs.Common.{subst}
use Rattle.sspi_tsreq.specs.declared.place.Element.{Element}
use Rattle.sspi_tsreq.specs.Quiet.{IsOctetsElement}
use Rattle.sspi_tsreq.proofs.walk.Walk.behind.Goals as goal

pub returns-in-Required-clause-quiet : goal.returns-in-Required-clause-quiet
returns-in-Required-clause-quiet c = λ quiet closed.
    c.inside-in-Required.ensures.quiet quiet (subst (λ (e : Element). IsOctetsElement e → ⊥) c.in-Required.is closed)
