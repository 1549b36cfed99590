use Rattle.std.proofs.Common.{ℕ, Global, Vec}
use Rattle.std.proofs.lemmas.Result.{err_from_is_err_and}
use Rattle.sspi_framing.proofs.Whole.{not_taken, taken_not_read}
use Rattle.sspi_framing.proofs.reading.next_request.Goals as goal

pub returns-in_err-read_whole-in-Some-clause-takes : goal.returns-in_err-read_whole-in-Some-clause-takes
returns-in_err-read_whole-in-Some-clause-takes g c =
    let p = err_from_is_err_and c.from_residual-in_err-read_whole-in-Some.result
    c.from_residual-in_err-read_whole-in-Some.ensures.1 in
    let taken = rw c.in-Some.is at c.in_ok-bytes.ensures.takes in
    rw (p.1, p.2)
    (taken_not_read _ _ c.in-Some.bytes.items _ c.in_err-read_whole-in-Some.field-0.0 taken.0 taken.1 c.deref.ensures.value
    c.in_err-read_whole-in-Some.ensures)

pub returns-in_err-bytes-clause-takes : goal.returns-in_err-bytes-clause-takes
returns-in_err-bytes-clause-takes g c =
    let p = err_from_is_err_and c.from_residual.result c.from_residual.ensures.1 in
    rw (p.1, p.2) (not_taken (λ (bytes : Vec ℕ Global). bytes.items) _ _ _ c.in_err-bytes.ensures.takes)
