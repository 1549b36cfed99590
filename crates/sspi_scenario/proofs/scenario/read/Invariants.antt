use Rattle.std.proofs.Common.{◌≤◌, ◌+◌}
use Rattle.std.specs.Prelude.{option_copied}
use Rattle.sspi_scenario.specs.Lines.{lines_of}
use Rattle.sspi_scenario.specs.Reads.{lines_after}
use Rattle.sspi_scenario.specs.Faults.{lines_from}
use Rattle.sspi_scenario.specs.Scenario.{scenario_of_lines}
use Rattle.sspi_scenario.proofs.Walk.{Sofar, left}
use Rattle.sspi_scenario.proofs.scenario.read.Given as goal

abbrev pub invariant-loop-rest : goal.invariant-loop-rest
invariant-loop-rest l = record {
  told : Sofar l.fn.purpose l.draft l.number (lines_after (option_copied l.rest))
      (scenario_of_lines l.fn.purpose (lines_from l.fn.purpose 1 (lines_of l.fn.text)));
  fits : l.number + left (option_copied l.rest) ≤ 1048578;
}

abbrev pub decreases-loop-rest : goal.decreases-loop-rest
decreases-loop-rest l = left (option_copied l.rest)
