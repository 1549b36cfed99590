use Rattle.std.proofs.Common.{◌≡◌, ◌++◌, length}
use Rattle.std.specs.List.{flat_map}
use Rattle.std.specs.Str.{IsUtf8}
use Rattle.sspi_explain.specs.Explained.{explained_line, explained, lines_of}
use Rattle.sspi_explain.proofs.lines.explain.Given as goal

abbrev pub invariant-lines : goal.invariant-lines
invariant-lines l = record {
  said : l.told.items ++ flat_map explained_line (lines_of l.rest) ≡ explained l.fn.text;
  text : IsUtf8 l.rest;
}

abbrev pub decreases-lines : goal.decreases-lines
decreases-lines l = length l.rest
