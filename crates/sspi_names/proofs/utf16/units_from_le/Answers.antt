use Rattle.sspi_names.proofs.CodeUnits.{read_pair, read_all}
use Rattle.sspi_names.proofs.utf16.units_from_le.Goals as goal

pub loop-rest-preserved : goal.loop-rest-preserved
loop-rest-preserved c =
    rw c.in_ok-push.ensures.items
    (read_pair c.loop-rest.units.items c.loop-rest.rest.now _ _ c.loop-rest.invariant c.in-len2-up.len_at_least c.from_le_bytes.ensures)

pub returns : goal.returns
returns c = read_all c.loop-rest.units.items c.loop-rest.rest.now _ c.loop-rest.invariant c.in_default.len_below
