use Rattle.std.proofs.Common.{◌≡◌, length}
use Rattle.sspi_explain.specs.Identifier.{subidentifiers_from}
use Rattle.sspi_explain.proofs.Subidentifiers.{behind}
use Rattle.sspi_explain.proofs.identifier.subidentifiers.Given as goal

abbrev pub invariant-octets : goal.invariant-octets
invariant-octets l =
    behind l.numbers.items (subidentifiers_from l.value l.left) ≡ subidentifiers_from 0 l.fn.content

abbrev pub decreases-octets : goal.decreases-octets
decreases-octets l = length l.left
