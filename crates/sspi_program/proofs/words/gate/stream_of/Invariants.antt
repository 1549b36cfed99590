use Rattle.std.specs.List.{flat_map}
use Rattle.std.proofs.Common.{◌≡◌, take}
use Rattle.sspi_program.specs.Gate.{delivered_from}
use Rattle.sspi_program.proofs.words.gate.stream_of.Given as goal

abbrev pub invariant-loop-entry : goal.invariant-loop-entry
invariant-loop-entry l = l.stream.items ≡ flat_map (delivered_from l.end) (take l.entry-index l.log)
