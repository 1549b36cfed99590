use Rattle.std.proofs.lemmas.Result.{err_from_is_err_and}
use Rattle.sspi_live.proofs.Carrying.{unwritten}
use Rattle.sspi_live.proofs.writing.write_encoded.Goals as goal

pub returns-in_err-text-clause-wrote : goal.returns-in_err-text-clause-wrote
returns-in_err-text-clause-wrote g c =
    let p = err_from_is_err_and c.from_residual.result c.from_residual.ensures.1 in
    rw (p.1, p.2)
    (unwritten g.W.Sink.written c.args.sink.now c.args.message.now c.in_err-text.field-0.0 c.in_err-text.ensures)
