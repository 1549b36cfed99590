use Rattle.std.proofs.Common.{◌∙◌}
use Rattle.sspi_scenario.proofs.Numbering.{named_user}
use Rattle.sspi_scenario.proofs.numbered.user_at.Goals as goal

pub returns-in-Ok : goal.returns-in-Ok
returns-in-Ok c =
    named_user c.args.number c.as_str.result.now c.as_str-2.result.now c.in-Ok.name (c.as_str.ensures.value ∙ c.in_ok-account.ensures.ok)
    (c.as_str-2.ensures.value ∙ c.in_ok-domain.ensures.ok) c.in-Ok.ensures
