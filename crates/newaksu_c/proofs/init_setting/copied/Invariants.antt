use Rattle.std.proofs.Common.{◌≡◌, take}
use Rattle.newaksu_c.proofs.init_setting.copied.Given as goal

abbrev pub invariant-loop-oid : goal.invariant-loop-oid
invariant-loop-oid l = l.copies.items ≡ take l.oid-index l.list
