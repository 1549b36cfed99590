-- A count that saturates at the largest value of its counter.
use Rattle.std.specs.Prelude.{◌≡◌, ℕ, ◌+◌, ◌-◌, ◌^◌, min}

-- the next value of such a count
abbrev pub counted_on : ℕ → ℕ
counted_on n = min (n + 1) (2 ^ 64 - 1)

-- one more call
abbrev pub Counts : ℕ → ℕ → Type 0
Counts before now = now ≡ counted_on before
