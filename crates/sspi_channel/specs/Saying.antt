-- What is written for a line, if it was made.
use Rattle.std.specs.Prelude.{◌≡◌, ℕ, List, Option, Result, Ok, Err}
use Rattle.std.specs.Global.{Vec}
use Rattle.sspi_channel.specs.Ended.{Says}

-- the same for the result of making a line
abbrev pub SaysMade : {E : Type 0} → Result (Vec ℕ) E → Option (List ℕ) → Option (List ℕ) → Type 0
SaysMade (Ok line) before after = Says line.items before after
SaysMade (Err error) before after = after ≡ before
