use Rattle.std.proofs.Common.{rules, ◌≡◌, List, ℕ, ap}
use Rattle.std.specs.Prelude.{option_copied, Option}
use Rattle.std.specs.Borrow.{Bor}
use Rattle.sspi_scenario.proofs.reasons.line_text.Goals as goal

pub returns-in_ok-fault-in-Some : goal.returns-in_ok-fault-in-Some
returns-in_ok-fault-in-Some c =
    rw (ap (λ (r : Option (Bor (List ℕ))). option_copied r) c.in-Some.is) (search rules)
