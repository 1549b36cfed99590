use Rattle.std.proofs.Common.{◌∙◌}
use Rattle.sspi_audit.proofs.Frames.{server_finds}
use Rattle.sspi_audit.proofs.standing.server_at.Goals as goal

pub returns : goal.returns
returns c past is = rw c.server_note.ensures (server_finds _ c.args.turn.now past (c.before-2.view_is ∙ is))
