-- The line with the state of a play's ends, piece by piece.
use Rattle.std.proofs.Common.{◌≡◌, ℕ, List, ◌++◌, codes, Result, Ok, Err, append_assoc}
use Rattle.std.specs.Prelude.{OnOk}
use Rattle.sspi_report.specs.Entries.{line}

module _ {E : Type 0} (old one two three client server identity : List ℕ) where
  pub standing_joined : (r : Result (Unit {0}) E) → one ≡ old ++ (codes "play client=" ++ client) →
      two ≡ one ++ (codes " server=" ++ server) → OnOk r (three ≡ two ++ line (codes " identity=" ++ identity)) →
      OnOk r (three ≡ old ++ line
      (codes "play client=" ++ client ++ codes " server=" ++ server ++ codes " identity=" ++ identity))
  standing_joined (Ok done) first second last = rw (last, second, first) (simp append_assoc)
  standing_joined (Err error) first second last = tt
