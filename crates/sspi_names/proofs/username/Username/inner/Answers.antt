use Rattle.std.proofs.Common.{sym, ap, ◌∙◌}
use Rattle.sspi_names.specs.Name.{inner_of}
use Rattle.sspi_names.proofs.Shown.{shows}
use Rattle.sspi_names.proofs.username.Username.inner.Goals as goal

pub returns-clause-text : goal.returns-clause-text
returns-clause-text c = c.as_str.ensures.value ∙ sym (shows _ _ c.self.invariant.placed) ∙ ap inner_of c.self.view_is
