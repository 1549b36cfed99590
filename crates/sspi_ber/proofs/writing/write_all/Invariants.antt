use Rattle.std.proofs.Common.{◌≡◌, length}
use Rattle.sspi_ber.proofs.Written.{Left}
use Rattle.sspi_ber.proofs.writing.write_all.Given as goal

abbrev pub invariant-loop-rest : goal.invariant-loop-rest
invariant-loop-rest g l = record {
  left : Left (g.W.Sink.written l.initial.sink) (g.W.Sink.written l.sink) l.piece l.rest;
  cause : g.W.Sink.faults l.sink ≡ g.W.Sink.faults l.initial.sink;
}

abbrev pub decreases-loop-rest : goal.decreases-loop-rest
decreases-loop-rest g l = length l.rest
