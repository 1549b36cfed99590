use Rattle.std.proofs.Common.{◌≡◌, length}
use Rattle.sspi_explain.specs.Codes.{name_among}
use Rattle.sspi_explain.proofs.codes.name_among.Given as goal

abbrev pub invariant-kinds : goal.invariant-kinds
invariant-kinds l = name_among l.left l.code ≡ name_among l.kinds l.code

abbrev pub decreases-kinds : goal.decreases-kinds
decreases-kinds l = length l.left
