use Rattle.std.proofs.lemmas.Result.{err_from_is_err_and}
use Rattle.sspi_tsreq.specs.Parts.{seen}
use Rattle.sspi_tsreq.proofs.FromBuffer.{copied_answer, copied_only, refused_answer, refused_only}
use Rattle.sspi_tsreq.proofs.request.TsRequest.from_buffer.Goals as goal

pub returns-in_err-parts-clause-answer : goal.returns-in_err-parts-clause-answer
returns-in_err-parts-clause-answer c =
    let p = err_from_is_err_and c.from_residual.result c.from_residual.ensures.1 in
    rw (p.1, p.2) (refused_answer seen c.args.buffer.now c.read_request.new.source c.in_err-parts.field-0.0
    (rw c.new.ensures at c.in_err-parts.ensures.read) c.in_err-parts.ensures.memory)

pub returns-in_err-parts-clause-only : goal.returns-in_err-parts-clause-only
returns-in_err-parts-clause-only c =
    let p = err_from_is_err_and c.from_residual.result c.from_residual.ensures.1 in
    rw (p.1, p.2) (refused_only seen c.args.buffer.now c.read_request.new.source c.in_err-parts.field-0.0
    (rw c.new.ensures at c.in_err-parts.ensures.read) c.in_err-parts.ensures.memory)

pub returns-clause-answer : goal.returns-clause-answer
returns-clause-answer c =
    copied_answer c.copy_request.result c.args.buffer.now _ (seen c.in_ok-parts.parts) (rw c.new.ensures at c.in_ok-parts.ensures.read)
    c.copy_request.ensures.ok c.copy_request.ensures.memory

pub returns-clause-only : goal.returns-clause-only
returns-clause-only c =
    copied_only c.copy_request.result c.args.buffer.now _ (seen c.in_ok-parts.parts) (rw c.new.ensures at c.in_ok-parts.ensures.read)
    c.copy_request.ensures.ok c.copy_request.ensures.memory
