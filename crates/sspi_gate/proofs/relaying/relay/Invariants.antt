use Rattle.std.proofs.Common.{◌≡◌, ◌+◌}
use Rattle.sspi_gate.specs.Way.{way}
use Rattle.sspi_gate.proofs.Turns.{SoFar}
use Rattle.sspi_gate.proofs.relaying.relay.Given as goal

abbrev pub invariant-loop : goal.invariant-loop
invariant-loop g l = record {
  passed : l.passed ≡ l.counter + l.counter;
  so_far : SoFar l.counter
      (way g.A.Source.left g.A.Source.faults g.B.Sink.written g.B.Sink.faults l.fn.client_in l.fn.server_out)
      (way g.C.Source.left g.C.Source.faults g.D.Sink.written g.D.Sink.faults l.fn.server_in l.fn.client_out)
      (way g.A.Source.left g.A.Source.faults g.B.Sink.written g.B.Sink.faults l.client_in l.server_out)
      (way g.C.Source.left g.C.Source.faults g.D.Sink.written g.D.Sink.faults l.server_in l.client_out)
      l.client_version l.server_version;
}
