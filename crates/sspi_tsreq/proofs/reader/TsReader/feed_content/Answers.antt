use Rattle.std.proofs.Common.{refl, ◌∙◌, sym}
use Rattle.sspi_tsreq.proofs.Feeding.{inside_on, inside_still, never, without_front}
use Rattle.sspi_tsreq.proofs.reader.TsReader.feed_content.Goals as goal

pub returns-then-len-eq0-clause-ok : goal.returns-then-len-eq0-clause-ok
returns-then-len-eq0-clause-ok c = λ bytes s. inside_still _ c.args.left c.args.place _ bytes c.args.behind.now _
    (sym c.min-len.ensures ∙ c.if-len-eq0.true) refl refl refl s

pub returns-in_err-read_content-clause-free : goal.returns-in_err-read_content-clause-free
returns-in_err-read_content-clause-free c = λ closed without. absurd
    (never (c.in_err-read_content.ensures.free closed (without_front 0x04 c.min-len.result c.args.behind.now without)))

pub returns-clause-ok : goal.returns-clause-ok
returns-clause-ok c = λ bytes s.
    inside_on _ c.args.left c.min-len.result c.args.place _ bytes c.args.behind.now _ s c.min-len.ensures c.in_ok-read_content.ensures.ok
