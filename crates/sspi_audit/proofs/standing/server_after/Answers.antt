use Rattle.std.proofs.Common.{◌∙◌, ap}
use Rattle.sspi_credssp.specs.Turn.{ShownFrame}
use Rattle.sspi_audit.proofs.Frames.{server_leaves}
use Rattle.sspi_audit.proofs.standing.server_after.Goals as goal

pub returns : goal.returns
returns c past is =
    let before = c.before-2.view_is ∙ is in
    rw (c.server_note.ensures, c.version_after.ensures)
    (server_leaves _ _ c.args.turn.now past before (c.server_state_after.ensures past (ap (λ (b : ShownFrame). b.state) before)))
