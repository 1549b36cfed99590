use Rattle.sspi_channel.specs.Delegating.{counted_channel}
use Rattle.sspi_channel.proofs.serving.serve_as.Goals as goal

pub returns : goal.returns
returns g c = record {
  delegated = c.delegate_to-delegated.result;
  now = counted_channel g.S.Source.left g.W.Sink.written c.delegate_to-delegated.new.source c.delegate_to-delegated.new.sink;
  delegates = c.delegate_to-delegated.ensures;
  tells = c.tell_behind.ensures (g.S.Source.left c.delegate_to-delegated.new.source.inner) c.delegate_to-delegated.new.source.faults;
}
