use Rattle.sspi_desk.proofs.Kept.{orderly_none}
use Rattle.sspi_desk.proofs.desk.Desk.new.Goals as goal

pub invariant_of-result : goal.invariant_of-result
invariant_of-result g c = orderly_none c.args.limit c.new.result.entries c.new.ensures.empty
