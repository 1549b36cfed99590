-- A length, and how many octets it took.
use Rattle.std.specs.Prelude.{ℕ, ◌-◌, List, length}
use Rattle.std.specs.Prelude.{Ok}
use Rattle.sspi_ber.specs.Pieces.{Read, ◌>>=◌, length_at}

-- a length, and how many bytes it takes
unfoldable pub sized_length_at : List ℕ → Read (ℕ × ℕ)
sized_length_at bytes = do
  n ← length_at bytes
  Ok ((n.0, length bytes - length n.1), n.1)
