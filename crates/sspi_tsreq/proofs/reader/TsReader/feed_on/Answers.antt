use Rattle.sspi_tsreq.proofs.Feeding.{fed_closed, fed_behind, past_content, stage_past}
use Rattle.sspi_tsreq.proofs.reader.TsReader.feed_on.Goals as goal

pub returns-in-Content-clause-free : goal.returns-in-Content-clause-free
returns-in-Content-clause-free c = λ bytes s without.
    c.feed_content.ensures.free
    (fed_closed c.args.self.now c.read_outer-stage.result.0 c.in-Content.left c.in-Content.place bytes c.args.piece.now
    c.read_outer-stage.result.1
    (c.read_outer-stage.ensures.stands _ bytes _ s.at) c.in-Content.is without)
    (fed_behind bytes c.args.piece.now c.read_outer-stage.result.1 without)

pub returns-in-Content-clause-past : goal.returns-in-Content-clause-past
returns-in-Content-clause-past c = λ bytes s past.
    c.feed_content.ensures.past
    (past_content c.read_outer-stage.result.0 c.in-Content.left c.in-Content.place c.in-Content.is
    (c.read_outer-stage.ensures.past (stage_past c.args.self.now.nonce c.args.self.now.stage c.args.self.now.request bytes s.at past)))
