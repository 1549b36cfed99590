use Rattle.std.proofs.Common.{inl, inr, arith}
use Rattle.sspi_names.specs.Utf16.{units_le}
use Rattle.sspi_names.proofs.CodeUnits.{after_single, front_pair, front_apart, alone, unpaired}
use Rattle.sspi_names.proofs.utf16.after_char.Goals as goal
use Rattle.sspi_names.proofs.utf16.after_char.Goals.{then-unit-lt55296-via-then-unit-lt55296}
use Rattle.sspi_names.proofs.utf16.after_char.Goals.{then-unit-lt55296-via-else-unit-lt55296+then-unit-ge57344}
use Rattle.sspi_names.proofs.utf16.after_char.Goals.{then-partner-lt56320-via-then-partner-lt56320}
use Rattle.sspi_names.proofs.utf16.after_char.Goals.{then-partner-lt56320-via-else-partner-lt56320+then-partner-ge57344}

pub returns-then-unit-lt55296-clause-paired : goal.returns-then-unit-lt55296-clause-paired
returns-then-unit-lt55296-clause-paired c =
    after_single c.args.unit (units_le c.args.others.now)
    (elim c.then-unit-lt55296.branch [
      | then-unit-lt55296-via-then-unit-lt55296 w ↦ inl w.if-unit-lt55296.true
      | then-unit-lt55296-via-else-unit-lt55296+then-unit-ge57344 w ↦ inr w.if-unit-ge57344.true
    ])

pub returns-then-unit-ge56320-clause-paired : goal.returns-then-unit-ge56320-clause-paired
returns-then-unit-ge56320-clause-paired c = unpaired _ _ (omega arith) (omega arith) (λ p. omega (arith, p.1))

pub returns-in_default-clause-paired : goal.returns-in_default-clause-paired
returns-in_default-clause-paired c = alone _ c.args.others.now c.in_default.len_below (omega arith) (omega arith)

pub returns-then-partner-lt56320-clause-paired : goal.returns-then-partner-lt56320-clause-paired
returns-then-partner-lt56320-clause-paired c =
    front_apart c.args.unit c.from_le_bytes-partner.result c.args.others.now c.in-len2-up.len_at_least c.from_le_bytes-partner.ensures
    (omega arith) (omega arith) (λ p.
    elim c.then-partner-lt56320.branch [
      | then-partner-lt56320-via-then-partner-lt56320 w ↦ omega (arith, p.2)
      | then-partner-lt56320-via-else-partner-lt56320+then-partner-ge57344 w ↦ omega (arith, p.3)
    ])

pub returns-clause-paired : goal.returns-clause-paired
returns-clause-paired c =
    front_pair c.args.unit c.from_le_bytes-partner.result c.args.others.now c.in-len2-up.len_at_least c.from_le_bytes-partner.ensures (
      omega arith,
      omega arith,
      c.if-partner-lt56320.false,
      c.if-partner-ge57344.false,
    )
