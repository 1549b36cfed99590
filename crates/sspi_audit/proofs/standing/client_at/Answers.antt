use Rattle.std.proofs.Common.{◌∙◌}
use Rattle.sspi_audit.proofs.Frames.{client_finds}
use Rattle.sspi_audit.proofs.standing.client_at.Goals as goal

pub returns : goal.returns
returns c past is = rw c.client_note.ensures (client_finds _ c.args.turn.now past (c.before-2.view_is ∙ is))
