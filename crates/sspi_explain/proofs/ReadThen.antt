-- What is read, and then what is read after it.
use Rattle.std.proofs.Common.{ℕ, List}
use Rattle.sspi_ber.specs.Pieces.{Read, ◌>>=◌}

abbrev pub read_then : {A B : Type 0} → Read A → (A × List ℕ → Read B) → Read B
read_then r next = r >>= next
