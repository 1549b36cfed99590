use Rattle.std.proofs.Common.{length}
use Rattle.std.proofs.lemmas.Result.{err_from_is_err_and}
use Rattle.sspi_ber.proofs.Short.{short_headers, short_wrapped}
use Rattle.sspi_ber.proofs.Written.{writes_more, writes_then}
use Rattle.sspi_ber.proofs.writing.write_wrapped_octets.Goals as goal

pub returns-in_err-write_all-clause-wrote : goal.returns-in_err-write_all-clause-wrote
returns-in_err-write_all-clause-wrote g c =
    let p = err_from_is_err_and c.from_residual.result c.from_residual.ensures.1 in
    rw (p.1, p.2, short_wrapped c.args.tag c.args.value.now c.if-len-lt126.true)
    (writes_more _ _ c.in_err-write_all.field-0.0 (short_headers c.args.tag (length c.args.value.now)) c.args.value.now
    c.in_err-write_all.ensures.wrote)

pub returns-then-len-lt126-clause-wrote : goal.returns-then-len-lt126-clause-wrote
returns-then-len-lt126-clause-wrote g c =
    rw (short_wrapped c.args.tag c.args.value.now c.if-len-lt126.true)
    (writes_then _ _ _ c.write_all-then-len-lt126.result (short_headers c.args.tag (length c.args.value.now)) c.args.value.now
    c.in_ok-write_all.ensures.wrote c.write_all-then-len-lt126.ensures.wrote)
