use Rattle.std.proofs.Common.{sym, ap, ◌∙◌, Some}
use Rattle.sspi_mech.proofs.Text.{is_text, no_text}
use Rattle.newaksu_c.proofs.settings.utf8_in.Goals as goal

pub returns-in-Ok : goal.returns-in-Ok
returns-in-Ok c = ap Some c.in-Ok.ensures.cases.0 ∙ sym (is_text _ c.in-Ok.ensures.cases.1)

pub returns-in-Err : goal.returns-in-Err
returns-in-Err c = sym (no_text _ c.in-Err.ensures.cases.0)
