use Rattle.sspi_channel.specs.Delegating.{counted_channel}
use Rattle.sspi_channel.proofs.connecting.connect_as.Goals as goal

pub returns : goal.returns
returns g c = record {
  delegated = c.delegate_by-delegated.result;
  now = counted_channel g.S.Source.left g.W.Sink.written c.delegate_by-delegated.new.source c.delegate_by-delegated.new.sink;
  delegates = c.delegate_by-delegated.ensures;
  hears = c.hear_behind.ensures (g.W.Sink.written c.delegate_by-delegated.new.sink.inner) c.delegate_by-delegated.new.sink.faults;
}
