use Rattle.sspi_scenario.proofs.Parting.{one-line, first-line}
use Rattle.sspi_scenario.proofs.lines.first_line.Goals as goal

pub returns-in-Some-clause-lines : goal.returns-in-Some-clause-lines
returns-in-Some-clause-lines c = first-line c.args.text.now (c.in-Some.line, c.in-Some.rest) c.in-Some.ensures.cases

pub returns-in-None-clause-lines : goal.returns-in-None-clause-lines
returns-in-None-clause-lines c = one-line c.args.text.now c.in-None.ensures.cases
