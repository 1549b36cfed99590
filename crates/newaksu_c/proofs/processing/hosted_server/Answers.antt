use Rattle.std.proofs.Common.{subst}
use Rattle.sspi_tsreq.specs.declared.request.TsRequest.{TsRequest}
use Rattle.sspi_outside.specs.Ends.{ServerCalled}
use Rattle.sspi_outside.specs.PeersMeaning.{peers_meaning}
use Rattle.newaksu_c.specs.Processing.{hosted}
use Rattle.newaksu_c.proofs.processing.hosted_server.Goals as goal

pub returns-in-Ok : goal.returns-in-Ok
returns-in-Ok c = (
  c.in_ok-request.request,
  c.in_ok-request.ensures,
  subst
      (λ (r : TsRequest). ServerCalled hosted peers_meaning c.args.end.now.server r c.process.result c.process.new.self.server
      c.process.new.self.last)
      c.in-Ok.ensures
      c.process.ensures,
)
