-- How a secret lends its value.
use Rattle.std.specs.Borrow.{Lends, MutBor, Fml, RattleType}
use Rattle.sspi_types.specs.declared.secret.Secret.{Secret}
use Rattle.sspi_types.specs.contracts.secret.Secret.{the_row}

-- at the end, the secret has the value that was left in the reference
abbrev pub LendsValue : (T : RattleType) → MutBor (Secret T.Denot) → MutBor T.Denot → Fml
LendsValue T secret lent = Lends (the_row T) T secret lent (λ value. record { value = value })
