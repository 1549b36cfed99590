use Rattle.std.proofs.Common.{◌≡◌}
use Rattle.std.specs.Prelude.{option_copied}
use Rattle.sspi_scenario.specs.Lines.{lines_of}
use Rattle.sspi_scenario.specs.Reads.{lines_after}
use Rattle.sspi_scenario.specs.Reasons.{names_key}
use Rattle.sspi_scenario.proofs.Walk.{left}
use Rattle.sspi_scenario.proofs.reasons.names_key.Given as goal

abbrev pub invariant-loop-rest : goal.invariant-loop-rest
invariant-loop-rest l = names_key (lines_after (option_copied l.rest)) l.fn.name ≡ names_key (lines_of l.fn.text) l.fn.name

abbrev pub decreases-loop-rest : goal.decreases-loop-rest
decreases-loop-rest l = left (option_copied l.rest)
