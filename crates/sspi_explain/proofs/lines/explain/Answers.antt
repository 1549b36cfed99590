use Rattle.std.proofs.Common.{ℕ, List, length, nat_eq, rules, sym, ap, ◌∙◌}
use Rattle.std.proofs.lemmas.Bool.{false≢true}
use Rattle.sspi_explain.specs.Explained.{explained_line}
use Rattle.sspi_explain.proofs.LineCuts.{next_line}
use Rattle.sspi_explain.proofs.lines.explain.Goals as goal

pub first_line-requires : goal.first_line-requires
first_line-requires c = λ e.
    false≢true (sym c.lines-test.true ∙ c.is_end.ensures ∙
    ap (λ (l : List ℕ). nat_eq (length l) 0) e)

pub lines-preserved : goal.lines-preserved
lines-preserved c = record {
  said = rw c.in_ok-push_line.ensures
      (next_line explained_line c.lines.told.items c.lines.rest.now c.first_line.result.0.now c.first_line.result.1.now
      c.first_line.ensures.lines ∙ c.lines.invariant.said);
  text = search rules;
}
