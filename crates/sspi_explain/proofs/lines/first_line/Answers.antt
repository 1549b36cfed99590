use Rattle.sspi_explain.proofs.LineCuts.{one_line, first_line}
use Rattle.sspi_explain.proofs.lines.first_line.Goals as goal

pub returns-in-Some-clause-lines : goal.returns-in-Some-clause-lines
returns-in-Some-clause-lines c =
    first_line c.args.text.now (c.in-Some.parts.0, c.in-Some.parts.1) c.in-Some.ensures.cases

pub returns-in-None-clause-lines : goal.returns-in-None-clause-lines
returns-in-None-clause-lines c = one_line c.args.text.now c.requires c.in-None.ensures.cases
