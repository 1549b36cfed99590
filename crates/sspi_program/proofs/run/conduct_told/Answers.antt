use Rattle.std.proofs.Common.{ℕ, List, subst}
use Rattle.sspi_program.specs.Telling.{CarriesOut}
use Rattle.sspi_program.proofs.Conducting.{comes_read}
use Rattle.sspi_program.proofs.run.conduct_told.Goals as goal

pub returns-in-Ok-clause-comes : goal.returns-in-Ok-clause-comes
returns-in-Ok-clause-comes g c =
    comes_read c.args.task (g.S.Source.left c.args.source.now) (g.S.Source.faults c.args.source.now)
    (g.S.Source.faults c.read_text.new.source) c.in-Ok.text c.carry_out.result c.in-Ok.ensures.text
    (subst (λ (text : List ℕ). CarriesOut c.args.task text c.carry_out.result) c.deref.ensures.value c.carry_out.ensures)
