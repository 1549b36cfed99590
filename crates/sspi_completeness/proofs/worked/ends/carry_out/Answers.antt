use Rattle.sspi_completeness.proofs.WorkedEnds.{worked_out}
use Rattle.sspi_completeness.proofs.worked.ends.carry_out.Goals as goal

pub returns : goal.returns
returns c x messages client_is server_is matches =
    worked_out x messages c.args.limit c.args.ends.client c.args.ends.server c.args.ends.kdc client_is server_is matches c.new-link.result
    _ c.new-link.ensures c.new.ensures.items _ _ c.delegate_plainly-answer.ensures.delegates c.delegate_plainly-answer.ensures.matched
