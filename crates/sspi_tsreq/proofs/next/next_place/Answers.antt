use Rattle.std.proofs.Common.{◌∷◌, subst, sym}
use Rattle.sspi_tsreq.specs.declared.place.Place.{Place}
use Rattle.sspi_tsreq.specs.Places.{rest_at}
use Rattle.sspi_tsreq.specs.Walks.{LeadsTo}
use Rattle.sspi_tsreq.proofs.next.next_place.Goals as goal

pub returns-in-InLength-clause-goes : goal.returns-in-InLength-clause-goes
returns-in-InLength-clause-goes c = λ nonce more r.
    subst (λ (p : Place). LeadsTo (rest_at nonce p r (c.args.byte ∷ more)) nonce r more c.length_next.result) (sym c.in-InLength.is)
    (c.length_next.ensures.goes nonce more r)

pub returns-in-InVersion-clause-goes : goal.returns-in-InVersion-clause-goes
returns-in-InVersion-clause-goes c = λ nonce more r.
    subst (λ (p : Place). LeadsTo (rest_at nonce p r (c.args.byte ∷ more)) nonce r more c.version_next.result) (sym c.in-InVersion.is)
    (c.version_next.ensures.goes nonce more r)

pub returns-in-InCode-clause-goes : goal.returns-in-InCode-clause-goes
returns-in-InCode-clause-goes c = λ nonce more r.
    subst (λ (p : Place). LeadsTo (rest_at nonce p r (c.args.byte ∷ more)) nonce r more c.code_next.result) (sym c.in-InCode.is)
    (c.code_next.ensures.goes nonce more r)
