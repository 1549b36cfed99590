use Rattle.std.proofs.Common.{refl, ◌∙◌, codes}
use Rattle.sspi_completeness.proofs.worked.parts.realm_kdc.Goals as goal

pub returns : goal.returns
returns c = c.new-2.ensures ∙ rw (c.in_ok-users.ensures (codes "ann@example.com") c.from_text.ensures, c.new.ensures.items) refl
