use Rattle.std.proofs.Common.{lit<}
use Rattle.std.proofs.lemmas.Iterator.Consumers.{YieldsList-end, YieldsList-at}
use Rattle.std.proofs.lemmas.Iterator.Splits.{YieldsList-from_str_split}
use Rattle.sspi_negotiate.specs.PackageList.{names_of}
use Rattle.sspi_negotiate.proofs.Names.{Heard, packages_heard}
use Rattle.sspi_negotiate.proofs.package_list.read_names.Goals as goal

pub returns : goal.returns
returns c =
    let end = YieldsList-end (YieldsList-at c.into_iter-name-iterator.ensures.into_iter_gives
    (YieldsList-from_str_split 44 c.args.list.now (lit< tt) c.split-name-items.ensures.text c.split-name-items.ensures.has_more
    c.split-name-items.ensures.pattern))
    c.loop-name.yielded _ c.loop-name.yielded_by _ _ c.in-None.is c.next.ensures.steps in
    let heard : Heard (names_of c.args.list.now) c.loop-name.ntlm c.loop-name.kerberos c.loop-name.unnamed = rw end.0
    at c.loop-name.invariant in
    packages_heard c.args.list.now c.loop-name.ntlm c.loop-name.kerberos c.loop-name.unnamed heard c.unwrap_or.result c.unwrap_or-2.result
    c.unwrap_or.ensures c.unwrap_or-2.ensures
