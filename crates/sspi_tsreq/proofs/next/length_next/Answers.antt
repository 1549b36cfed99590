use Rattle.std.proofs.Common.{ℕ, ◌∷◌, subst, sym}
use Rattle.sspi_ber.specs.Pieces.{Read, ◌>>=◌}
use Rattle.sspi_tsreq.specs.declared.place.LengthStep.{LengthStep}
use Rattle.sspi_tsreq.specs.Places.{behind, length_rest}
use Rattle.sspi_tsreq.specs.Walks.{LengthSteps, LeadsTo}
use Rattle.sspi_tsreq.proofs.next.length_next.Goals as goal

pub returns-in-Known-clause-goes : goal.returns-in-Known-clause-goes
returns-in-Known-clause-goes c = λ nonce more r.
    let known = subst (λ (s : LengthStep). LengthSteps (length_rest c.args.part (c.args.byte ∷ more)) s more) c.in-Known.is
    (c.next_length.ensures more) in
    subst (λ (z : Read ℕ). LeadsTo (z >>= λ n. behind c.args.element r n.0 n.1) nonce r more c.content_next.result) (sym known)
    (c.content_next.ensures.goes nonce more r)
