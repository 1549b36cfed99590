use Rattle.std.proofs.Common.{◌+◌, length, ap, ◌∙◌, arith}
use Rattle.std.proofs.lemmas.List.{length-take-le}
use Rattle.sspi_tsreq.proofs.Walks.{text_part, text_whole}
use Rattle.sspi_tsreq.proofs.reader.octets_of_field.Goals as goal

pub returns-then-body-more-clause-goes : goal.returns-then-body-more-clause-goes
returns-then-body-more-clause-goes c = λ nonce rest r. text_part c.args.text c.args.more r c.args.body.now rest c.if-body-more.true

pub returns-else-body-more-clause-goes : goal.returns-else-body-more-clause-goes
returns-else-body-more-clause-goes c = λ nonce rest r.
    text_whole c.args.text c.args.more r c.split_at.result.0.now rest
    (ap length c.split_at.ensures.front ∙ length-take-le (c.args.more + 1) c.args.body.now (omega (arith, c.if-body-more.false)))
    ∙ c.after_text.ensures r _ rest
