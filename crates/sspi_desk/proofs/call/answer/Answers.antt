use Rattle.std.proofs.Common.{Err}
use Rattle.sspi_credssp.specs.Context.{either}
use Rattle.sspi_desk.specs.Call.{Takes}
use Rattle.sspi_desk.proofs.Serving.{refusal_served}
use Rattle.sspi_desk.proofs.call.answer.Goals as goal

pub returns : goal.returns
returns g c =
    let m = either g.N.Mechanism.REQUESTS g.N.Mechanism.meaning g.K.Mechanism.meaning in
    let p = g.C.CredentialsProxy.meaning in
    let refusal = c.in-Err-process.refusal in
    let takes : Takes m p c.args.server.now c.args.bytes.now (Err refusal) c.process.new.self = record {
      request = c.in-Ok.request;
      count = c.in-Ok.ensures.answer.0.0;
      read = c.in-Ok.ensures.answer.0.1;
      process = c.in-Err-process.ensures;
    } in
    refusal_served m p c.args.server.now c.process.new.self c.args.bytes.now refusal.ts_request refusal.error c.refused.result takes
    c.refused.ensures
