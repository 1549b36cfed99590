use Rattle.std.proofs.Common.{ℕ, ◌-◌, ap, ◌∙◌, sym}
use Rattle.sspi_tsreq.specs.Places.{code_from, code_then}
use Rattle.sspi_tsreq.proofs.Walks.{code_more, code_end}
use Rattle.sspi_tsreq.proofs.next.code_next.Goals as goal

pub returns-then-more-gt0-clause-goes : goal.returns-then-more-gt0-clause-goes
returns-then-more-gt0-clause-goes c = λ nonce text r.
    code_more r c.args.more c.args.value c.args.byte text c.if-more-gt0.true
    ∙ ap (λ (low : ℕ). code_from (c.args.more - 1) low r text) (sym c.push_low-low.ensures)

pub returns-else-more-gt0-clause-goes : goal.returns-else-more-gt0-clause-goes
returns-else-more-gt0-clause-goes c = λ nonce text r.
    code_end r c.args.more c.args.value c.args.byte text c.if-more-gt0.false
    ∙ ap (λ (low : ℕ). code_then r (low, text)) (sym c.push_low-low.ensures)
