use Rattle.std.proofs.Common.{ℕ, List, refl, subst}
use Rattle.sspi_program.specs.Telling.{Explains}
use Rattle.sspi_program.proofs.Conducting.{comes_explained, too_long_to_explain}
use Rattle.sspi_program.proofs.run.conduct_explain.Goals as goal

pub returns-in-Ok-clause-comes : goal.returns-in-Ok-clause-comes
returns-in-Ok-clause-comes g c =
    comes_explained (g.S.Source.left c.args.source.now) (g.S.Source.faults c.args.source.now)
    (g.S.Source.faults c.read_text.new.source) c.in-Ok.text c.explain_bytes.result c.in-Ok.ensures.text
    (subst (λ (text : List ℕ). Explains text c.explain_bytes.result) c.deref.ensures.value c.explain_bytes.ensures)

pub returns-in-Err-TooLong-clause-comes : goal.returns-in-Err-TooLong-clause-comes
returns-in-Err-TooLong-clause-comes g c =
    let e = c.in-Err-TooLong in (refl, too_long_to_explain _ (rw e.field-0-is at e.ensures.text))
