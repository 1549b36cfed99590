use Rattle.std.proofs.Common.{append_assoc}
use Rattle.sspi_explain.specs.Request.{nested_text}
use Rattle.sspi_explain.proofs.request.nested_text.Goals as goal

pub returns : goal.returns
unfolding nested_text
returns c = rw (
  c.in_ok-text.ensures.ok,
  c.in_ok-count.ensures,
  c.name-name.ensures,
) (simp append_assoc)
