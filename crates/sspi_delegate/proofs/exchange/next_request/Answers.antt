use Rattle.sspi_delegate.proofs.LogSteps.{read_asked, read_fails}
use Rattle.sspi_delegate.proofs.exchange.next_request.Goals as goal

pub returns-in-Ok-finish-clause-ok : goal.returns-in-Ok-finish-clause-ok
returns-in-Ok-finish-clause-ok g c base start between =
    read_asked base start c.args.transcript.now.turns (g.L.Link.log c.args.link.now) (g.L.Link.log c.take_delivery.new.link)
    (g.L.Link.faults c.args.link.now) (g.L.Link.faults c.take_delivery.new.link) c.in-Ok.reader c.in-Ok-finish.request
    c.in_default.field-0.now c.in_default.ensures between c.in-Ok.ensures.takes c.in-Ok.ensures.cause c.in-Ok-finish.ensures.answer

pub returns-in-Err-clause-err : goal.returns-in-Err-clause-err
returns-in-Err-clause-err g c base start limit next left between =
    read_fails base start limit c.args.transcript.now.turns (g.L.Link.log c.args.link.now) (g.L.Link.log c.take_delivery.new.link)
    (g.L.Link.faults c.args.link.now) (g.L.Link.faults c.take_delivery.new.link) c.in-Ok.reader c.args.to c.in-Err.kind
    c.in_default.field-0.now c.in_default.ensures next left between c.in-Ok.ensures.takes c.in-Ok.ensures.cause
    c.in-Err.ensures.answer c.in-Err.ensures.memory
