-- A tag that is not next.
use Rattle.std.proofs.Common.{◌≡◌, ℕ, List, [], ◌∷◌, None, Ok, refl}
use Rattle.std.proofs.lemmas.Bool.{ne_eqb}
use Rattle.sspi_ber.specs.Forms.{IsNotNext}
use Rattle.sspi_ber.specs.Pieces.{tag_or_absent_at}

pub absent : (tag : ℕ) (bytes : List ℕ) → IsNotNext tag bytes → tag_or_absent_at tag bytes ≡ Ok (None, bytes)
unfolding tag_or_absent_at
absent tag [] other = refl
absent tag (byte ∷ rest) other = rw (ne_eqb byte tag other) refl
