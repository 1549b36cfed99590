use Rattle.std.proofs.Common.{sym, ◌∙◌}
use Rattle.sspi_tsreq.proofs.AtOnce.{kept_alone, kept_answers}
use Rattle.sspi_tsreq.proofs.reader.TsReader.finish.Goals as goal

pub returns-in-Content-eq0-Whole-clause-answer : goal.returns-in-Content-eq0-Whole-clause-answer
returns-in-Content-eq0-Whole-clause-answer c = λ bytes s.
    let at = c.in-Content-eq0-Whole in
    kept_answers c.args.self at.field-0 at.field-1 bytes at.is (sym at.field-0-is ∙ at.field-0-test) (rw at.is at at.field-1-is) s

pub returns-in-Content-eq0-Whole-clause-only : goal.returns-in-Content-eq0-Whole-clause-only
returns-in-Content-eq0-Whole-clause-only c = λ bytes s.
    let at = c.in-Content-eq0-Whole in
    kept_alone c.args.self at.field-0 at.field-1 bytes at.is (sym at.field-0-is ∙ at.field-0-test) (rw at.is at at.field-1-is) s
