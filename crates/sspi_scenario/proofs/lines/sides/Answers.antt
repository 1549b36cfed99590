use Rattle.sspi_scenario.proofs.Parting.{sides}
use Rattle.sspi_scenario.proofs.lines.sides.Goals as goal

pub returns-in-Some-clause-before : goal.returns-in-Some-clause-before
returns-in-Some-clause-before c = (rw c.in-Some.ensures at (sides c.args.text.now)).0

pub returns-in-Some-clause-after : goal.returns-in-Some-clause-after
returns-in-Some-clause-after c = (rw c.in-Some.ensures at (sides c.args.text.now)).1

pub returns-in-None-clause-before : goal.returns-in-None-clause-before
returns-in-None-clause-before c = (rw c.in-None.ensures at (sides c.args.text.now)).0

pub returns-in-None-clause-after : goal.returns-in-None-clause-after
returns-in-None-clause-after c = (rw c.in-None.ensures at (sides c.args.text.now)).1
