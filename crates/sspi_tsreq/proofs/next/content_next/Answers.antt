use Rattle.std.proofs.Common.{subst, sym}
use Rattle.sspi_tsreq.specs.declared.place.Element.{Element}
use Rattle.sspi_tsreq.specs.Places.{behind}
use Rattle.sspi_tsreq.specs.Walks.{LeadsTo}
use Rattle.sspi_tsreq.proofs.next.content_next.Goals as goal

pub returns-in-Required-clause-goes : goal.returns-in-Required-clause-goes
returns-in-Required-clause-goes c = λ nonce more r.
    subst (λ (e : Element). LeadsTo (behind e r c.args.len more) nonce r more c.inner_next.result) (sym c.in-Required.is)
    (c.inner_next.ensures.goes nonce more r)
