use Rattle.std.proofs.Common.{true, sym, ap, ◌∙◌}
use Rattle.std.specs.Char.Utf16.{has_unpaired_surrogate}
use Rattle.sspi_names.specs.Utf16.{units_le}
use Rattle.sspi_names.proofs.CodeUnits.{nothing_unpaired, taken, units_le-end}
use Rattle.sspi_names.proofs.utf16.is_well_formed.Goals as goal

pub loop-rest-preserved : goal.loop-rest-preserved
loop-rest-preserved c =
    sym (taken c.loop-rest.rest.now c.from_le_bytes.result (has_unpaired_surrogate (units_le c.in-Some.after.now))
    c.in-len2-up.len_at_least c.from_le_bytes.ensures c.in-Some.ensures.paired)
    ∙ c.loop-rest.invariant

pub returns-in-None : goal.returns-in-None
returns-in-None c =
    sym c.loop-rest.invariant
    ∙ taken c.loop-rest.rest.now c.from_le_bytes.result true c.in-len2-up.len_at_least c.from_le_bytes.ensures c.in-None.ensures.paired

pub returns : goal.returns
returns c =
    sym c.loop-rest.invariant ∙ ap has_unpaired_surrogate (units_le-end c.loop-rest.rest.now c.in_default.len_below) ∙ nothing_unpaired
