use Rattle.std.proofs.Common.{arith}
use Rattle.sspi_names.proofs.Counted.{mixed_twice, mixed_both, mixed_not}
use Rattle.sspi_names.proofs.conversions.mixes_forms.Goals as goal

pub returns-then-backslashes-gt1 : goal.returns-then-backslashes-gt1
returns-then-backslashes-gt1 c =
    mixed_twice c.count_of-backslashes.result c.args.user.now c.count_of-backslashes.ensures.well_formed
    c.count_of-backslashes.ensures.count c.if-backslashes-gt1.true

pub returns-then-backslashes-gt0 : goal.returns-then-backslashes-gt0
returns-then-backslashes-gt0 c =
    mixed_both c.count_of-backslashes.result c.count_of.result c.args.user.now c.count_of-backslashes.ensures.well_formed
    c.count_of-backslashes.ensures.count c.count_of.ensures.count (omega arith) c.if-backslashes-gt0.true

pub returns-else-backslashes-gt0 : goal.returns-else-backslashes-gt0
returns-else-backslashes-gt0 c =
    mixed_not c.count_of-backslashes.result c.args.user.now c.count_of-backslashes.ensures.well_formed
    c.count_of-backslashes.ensures.count (omega arith)
