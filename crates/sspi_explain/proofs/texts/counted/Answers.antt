use Rattle.std.proofs.Common.{append_assoc}
use Rattle.sspi_explain.specs.Texts.{counted}
use Rattle.sspi_explain.proofs.texts.counted.Goals as goal

pub returns : goal.returns
unfolding counted
returns c = rw (
  c.in_ok-text.ensures.ok,
  c.in_ok-count.ensures,
  c.in_ok-shown.ensures,
) (simp append_assoc)
