use Rattle.std.proofs.Common.{refl, ◌∙◌}
use Rattle.sspi_completeness.proofs.worked.ends.proxy_of.Goals as goal

pub returns : goal.returns
returns c known is = c.new-2.ensures ∙ rw (c.in_ok-entries.ensures known is, c.new.ensures.items) refl
