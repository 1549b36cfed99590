use Rattle.std.proofs.Common.{◌≡◌, take}
use Rattle.newaksu_c.proofs.identity_list.IdentityList.copied.Given as goal

abbrev pub invariant-loop-identity : goal.invariant-loop-identity
invariant-loop-identity l = l.copies.items ≡ take l.identity-index l.identity-items
