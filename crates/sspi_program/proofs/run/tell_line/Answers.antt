use Rattle.std.proofs.Common.{ℕ, List, ◌∙◌, subst}
use Rattle.sspi_program.specs.Run.{Written}
use Rattle.sspi_program.proofs.run.tell_line.Goals as goal

pub returns-in-Ok-clause-written : goal.returns-in-Ok-clause-written
returns-in-Ok-clause-written g c =
    subst (λ (text : List ℕ). Written 2 text (g.W.Sink.written c.args.sink.now) (g.W.Sink.written c.write_text.new.sink)
    (g.W.Sink.faults c.args.sink.now) (g.W.Sink.faults c.write_text.new.sink) c.write_text.result)
    (c.as_bytes.ensures.value ∙ c.in-Ok.ensures) c.write_text.ensures.written
