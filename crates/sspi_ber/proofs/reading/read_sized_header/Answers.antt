use Rattle.sspi_ber.proofs.Rest.{rest_then}
use Rattle.sspi_ber.proofs.Sized.{header_sized}
use Rattle.sspi_ber.proofs.reading.read_sized_header.Goals as goal

pub returns-clause-read : goal.returns-clause-read
returns-clause-read g c =
    header_sized c.args.tag (g.S.Source.left c.args.source.now) (g.S.Source.left c.read_byte.new.source)
    (g.S.Source.left c.read_sized_length.new.source)
    c.in_ok-read_byte.field-0 (c.in_ok-len.len, c.in_ok-len.size) c.in_ok-read_byte.ensures.read c.if-branch-tag.false
    c.in_ok-len.ensures.read

pub returns-clause-rest : goal.returns-clause-rest
returns-clause-rest g c = rest_then c.read_byte.ensures.rest c.read_sized_length.ensures.rest

pub returns-in_err-len-clause-rest : goal.returns-in_err-len-clause-rest
returns-in_err-len-clause-rest g c = rest_then c.read_byte.ensures.rest c.read_sized_length.ensures.rest
