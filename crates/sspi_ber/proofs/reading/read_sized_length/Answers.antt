use Rattle.std.proofs.Common.{sym, ◌∙◌, arith}
use Rattle.sspi_ber.proofs.Rest.{rest_then}
use Rattle.sspi_ber.proofs.Sized.{length_sized}
use Rattle.sspi_ber.proofs.reading.read_sized_length.Goals as goal

pub returns-in_err-len-clause-rest : goal.returns-in_err-len-clause-rest
returns-in_err-len-clause-rest g c = rest_then c.read_byte.ensures.rest c.read_limited.ensures.rest

pub returns-clause-rest : goal.returns-clause-rest
returns-clause-rest g c = rest_then c.read_byte.ensures.rest c.read_limited.ensures.rest

pub returns-clause-read : goal.returns-clause-read
returns-clause-read g c =
    length_sized (g.S.Source.left c.args.source.now) (g.S.Source.left c.read_byte.new.source)
    (g.S.Source.left c.read_limited.new.source) c.from-count.result c.in_ok-len.len
    (rw c.from-count.ensures c.in_ok-first.ensures.read) (omega (arith, c.from-count.ensures))
    (sym c.is_octet_count.ensures.counts ∙ c.if-not-is_octet_count.false)
    c.in_ok-len.ensures.read
