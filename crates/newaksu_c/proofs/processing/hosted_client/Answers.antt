use Rattle.std.proofs.Common.{subst}
use Rattle.sspi_tsreq.specs.declared.request.TsRequest.{TsRequest}
use Rattle.sspi_outside.specs.Ends.{ClientCalled}
use Rattle.newaksu_c.specs.Processing.{hosted}
use Rattle.newaksu_c.proofs.processing.hosted_client.Goals as goal

pub returns-in-Ok : goal.returns-in-Ok
returns-in-Ok c = (
  c.in_ok-request.request,
  c.in_ok-request.ensures,
  subst
      (λ (r : TsRequest). ClientCalled hosted c.args.end.now.client r c.process.result c.process.new.self.client c.process.new.self.last)
      c.in-Ok.ensures
      c.process.ensures,
)
