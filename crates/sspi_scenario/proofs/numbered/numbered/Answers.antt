use Rattle.sspi_scenario.proofs.Numbering.{told_values, values_hold}
use Rattle.sspi_scenario.proofs.numbered.numbered.Goals as goal

pub returns-clause-holds : goal.returns-clause-holds
returns-clause-holds c =
    values_hold c.args.number c.ranges.number.fits c.tell.new.scenario (c.in_ok-tell.ensures (told_values c.in-Ok.values c.in-Ok.ensures))
