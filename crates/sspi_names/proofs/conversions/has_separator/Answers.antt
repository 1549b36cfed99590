use Rattle.std.proofs.Common.{arith}
use Rattle.sspi_names.proofs.Counted.{some_at, some_slash}
use Rattle.sspi_names.proofs.conversions.has_separator.Goals as goal

pub returns-then-count_of-gt0 : goal.returns-then-count_of-gt0
returns-then-count_of-gt0 c =
    some_at c.count_of.result c.args.text.now c.count_of.ensures.well_formed c.count_of.ensures.count c.if-count_of-gt0.true

pub returns-else-count_of-gt0 : goal.returns-else-count_of-gt0
returns-else-count_of-gt0 c =
    some_slash c.count_of.result c.count_of-else-count_of-gt0.result c.args.text.now c.count_of.ensures.well_formed
    c.count_of.ensures.count c.count_of-else-count_of-gt0.ensures.count (omega arith)
