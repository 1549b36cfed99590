use Rattle.sspi_tsreq.proofs.Bytewise.{byte_closed, byte_stands}
use Rattle.sspi_tsreq.proofs.Feeding.{never}
use Rattle.sspi_tsreq.proofs.reader.TsReader.feed_byte.Goals as goal

pub returns-in_err-read_byte-clause-free : goal.returns-in_err-read_byte-clause-free
returns-in_err-read_byte-clause-free c = λ bytes s without.
    let closed = byte_closed c.args.self.now c.in-Content.left c.in-Content.place bytes c.args.byte c.in-Content.is s without in
    absurd (never (c.in_err-read_byte.ensures.free closed.0 closed.1))

pub returns-clause-ok : goal.returns-clause-ok
returns-clause-ok c = λ bytes s.
    byte_stands c.args.self.now c.read_byte.new.self c.in-Content.left c.in-Content.place bytes c.args.byte c.in-Content.is
    c.if-left-gt0.true s c.in_ok-read_byte.ensures.ok
