use Rattle.std.proofs.Common.{◌≡◌, drop}
use Rattle.sspi_scenario.specs.Reads.{first_named}
use Rattle.sspi_scenario.proofs.key.named.Given as goal

abbrev pub invariant-loop-key : goal.invariant-loop-key
invariant-loop-key l = first_named l.name (drop l.key-index l.rows) ≡ first_named l.name l.rows
