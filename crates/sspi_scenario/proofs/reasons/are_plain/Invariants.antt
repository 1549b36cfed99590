use Rattle.std.proofs.Common.{◌≡◌, drop}
use Rattle.std.specs.List.{list_all}
use Rattle.sspi_scenario.specs.Reasons.{is_plain_byte}
use Rattle.sspi_scenario.proofs.reasons.are_plain.Given as goal

abbrev pub invariant-loop-byte : goal.invariant-loop-byte
invariant-loop-byte l = list_all is_plain_byte (drop l.byte-index l.bytes) ≡ list_all is_plain_byte l.bytes
