use Rattle.std.proofs.Common.{refl}
use Rattle.sspi_program.proofs.words.desk.desk.Goals as goal

pub returns-in-Ok : goal.returns-in-Ok
returns-in-Ok c =
    rw c.said_without.ensures (c.serve-said.ensures c.args.count c.args.scenario (c.in-Ok.ensures c.new-table.ensures) refl)
