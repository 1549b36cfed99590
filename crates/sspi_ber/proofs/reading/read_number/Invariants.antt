use Rattle.std.proofs.Common.{◌≡◌, ◌<◌, ◌^◌}
use Rattle.sspi_ber.specs.Outside.{LeavesRest}
use Rattle.sspi_ber.proofs.Numbers.{ReadSoFar}
use Rattle.sspi_ber.proofs.reading.read_number.Given as goal

abbrev pub invariant-loop : goal.invariant-loop
invariant-loop g l = record {
  bound : l.value < 256 ^ l.counter;
  so_far : ReadSoFar (g.S.Source.left l.initial.source) (g.S.Source.left l.source) l.value l.counter;
  rest : LeavesRest (g.S.Source.left l.initial.source) (g.S.Source.left l.source);
  cause : g.S.Source.faults l.source ≡ g.S.Source.faults l.initial.source;
}
