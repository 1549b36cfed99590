use Rattle.std.proofs.Common.{ℕ, ◌-◌, ap, ◌∙◌, sym}
use Rattle.sspi_tsreq.specs.Places.{version_from, version_then}
use Rattle.sspi_tsreq.proofs.Walks.{version_more, version_end}
use Rattle.sspi_tsreq.proofs.next.version_next.Goals as goal

pub returns-then-more-gt0-clause-goes : goal.returns-then-more-gt0-clause-goes
returns-then-more-gt0-clause-goes c = λ nonce text r.
    version_more c.args.more c.args.value c.args.byte text c.if-more-gt0.true
    ∙ ap (λ (low : ℕ). version_from (c.args.more - 1) low text) (sym c.push_low-low.ensures)

pub returns-else-more-gt0-clause-goes : goal.returns-else-more-gt0-clause-goes
returns-else-more-gt0-clause-goes c = λ nonce text r.
    version_end c.args.more c.args.value c.args.byte text c.if-more-gt0.false
    ∙ ap (λ (low : ℕ). version_then (low, text)) (sym c.push_low-low.ensures)
