use Rattle.std.proofs.Common.{◌≡◌, ℕ, List, Ok, Err, Option, refl}
use Rattle.sspi_ber.specs.Pieces.{Read, header_at}
use Rattle.sspi_ber.specs.Outside.{Answers}
use Rattle.sspi_framing.proofs.header.announced.Goals as goal

rest_of : (size : ℕ) (after : Option (List ℕ)) (read : Read ℕ) → Answers {X = ℕ} {A = ℕ} (λ n. n) after (Ok size) read →
    (x : List ℕ) × (read ≡ Ok (size, x))
rest_of size after (Ok (n, x)) (same, left) = (x, rw same refl)
rest_of size after (Err fault) a = absurd a

pub returns-in-Ok : goal.returns-in-Ok
returns-in-Ok c = rest_of c.in-Ok.size _ (header_at 0x30 c.args.header.now) (rw c.new.ensures at c.in-Ok.ensures.read)
