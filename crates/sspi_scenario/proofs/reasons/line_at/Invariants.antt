use Rattle.std.proofs.Common.{◌≡◌, ◌-◌}
use Rattle.std.specs.Prelude.{option_copied}
use Rattle.std.specs.List.{slice_get}
use Rattle.sspi_scenario.specs.Lines.{lines_of}
use Rattle.sspi_scenario.specs.Reads.{lines_after}
use Rattle.sspi_scenario.proofs.Walk.{left}
use Rattle.sspi_scenario.proofs.reasons.line_at.Given as goal

abbrev pub invariant-loop-rest : goal.invariant-loop-rest
invariant-loop-rest l = slice_get (lines_after (option_copied l.rest)) l.ahead ≡ slice_get (lines_of l.fn.text) (l.fn.number - 1)

abbrev pub decreases-loop-rest : goal.decreases-loop-rest
decreases-loop-rest l = left (option_copied l.rest)
