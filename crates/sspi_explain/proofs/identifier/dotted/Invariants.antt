use Rattle.std.proofs.Common.{◌≡◌, ◌++◌, take, string_bytes}
use Rattle.std.specs.List.{flat_map}
use Rattle.sspi_explain.specs.Identifier.{dotted}
use Rattle.sspi_explain.proofs.identifier.dotted.Given as goal

abbrev pub invariant-loop-number : goal.invariant-loop-number
invariant-loop-number l = string_bytes l.text ≡ string_bytes l.initial.text ++
    flat_map dotted (take l.number-index l.others)
