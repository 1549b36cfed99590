-- A line that was made is the one that is written.
use Rattle.std.proofs.Common.{◌≡◌, ℕ, List, Option, Result, Ok, Err, IfOk, subst}
use Rattle.std.specs.Global.{Vec}
use Rattle.sspi_channel.specs.Ended.{Says, without_memory}
use Rattle.sspi_channel.specs.Saying.{SaysMade}

pub said : {E : Type 0} (made : Result (Vec ℕ) E) (line : List ℕ) (before after : Option (List ℕ)) →
    IfOk made (λ text. text.items ≡ line) → SaysMade made before after → Says line before after
said (Ok text) line before after is says = subst (λ (l : List ℕ). Says l before after) is says
said (Err error) line before after is same = without_memory same
