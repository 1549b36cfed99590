use Rattle.sspi_program.proofs.Conducting.{explains}
use Rattle.sspi_program.proofs.words.explain.explain_bytes.Goals as goal

pub returns-in-Some : goal.returns-in-Some
returns-in-Some c =
    explains c.args.bytes.now _ _ c.in-Some.ensures.0 c.in-Some.ensures.1 c.explain_text.ensures
