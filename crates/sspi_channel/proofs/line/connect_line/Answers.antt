use Rattle.std.proofs.Common.{append_assoc}
use Rattle.sspi_channel.proofs.line.connect_line.Goals as goal

pub returns : goal.returns
returns c =
    rw (c.in-Ok.is, c.into_bytes.ensures.value, c.in_ok-text.ensures.ok, c.early_part-early.ensures) (simp append_assoc)
