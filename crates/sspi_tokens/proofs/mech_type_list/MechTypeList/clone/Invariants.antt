use Rattle.std.proofs.Common.{◌≡◌, take}
use Rattle.sspi_tokens.proofs.mech_type_list.MechTypeList.clone.Given as goal

abbrev pub invariant-loop-oid : goal.invariant-loop-oid
invariant-loop-oid l = l.copy.items ≡ take l.oid-index l.oid-items
