use Rattle.std.proofs.Common.{◌≡◌, take}
use Rattle.sspi_program.specs.Generate.{how_many}
use Rattle.sspi_program.proofs.words.count.how_many.Given as goal

abbrev pub invariant-loop-record : goal.invariant-loop-record
invariant-loop-record l = l.count ≡ how_many l.kind (take l.record-index l.tally)
