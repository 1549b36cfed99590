use Rattle.std.proofs.Common.{◌≡◌, take}
use Rattle.sspi_credssp.specs.Proxy.{candidates_of}
use Rattle.sspi_credssp.proofs.table_proxy.copy_named.Given as goal

abbrev pub invariant-loop-entry : goal.invariant-loop-entry
invariant-loop-entry l = l.copies.items ≡ candidates_of (take l.entry-index l.entries) l.fn.username
