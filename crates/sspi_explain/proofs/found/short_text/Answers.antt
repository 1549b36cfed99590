use Rattle.std.proofs.Common.{append_assoc}
use Rattle.sspi_explain.specs.Found.{found_text}
use Rattle.sspi_explain.proofs.found.short_text.Goals as goal

pub returns : goal.returns
unfolding found_text
returns c = rw (c.in_ok-text.ensures.ok, c.in_ok-count.ensures) (simp append_assoc)
