use Rattle.std.proofs.Common.{◌≡◌, take}
use Rattle.sspi_negotiate.specs.Known.{named}
use Rattle.sspi_negotiate.proofs.known.copy_named.Given as goal

abbrev pub invariant-loop-entry : goal.invariant-loop-entry
invariant-loop-entry l = l.copies.items ≡ named l.fn.name (take l.entry-index l.known)
