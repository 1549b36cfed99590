use Rattle.std.proofs.Common.{ℕ, ap, ◌∙◌, sym}
use Rattle.sspi_ber.specs.Pieces.{Read, ◌>>=◌}
use Rattle.sspi_tsreq.specs.Places.{version_then}
use Rattle.sspi_tsreq.proofs.Numbers.{sized_begun}
use Rattle.sspi_tsreq.proofs.walk.version_place.Goals as goal

pub returns-then-is_integer_size-clause-goes : goal.returns-then-is_integer_size-clause-goes
returns-then-is_integer_size-clause-goes c = λ nonce r more.
    ap (λ (z : Read ℕ). z >>= version_then) (sized_begun c.args.len more (sym c.is_integer_size.ensures ∙ c.if-is_integer_size.true))
