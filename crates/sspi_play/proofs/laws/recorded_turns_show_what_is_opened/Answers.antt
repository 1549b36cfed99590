use Rattle.sspi_credssp.specs.Context.{either}
use Rattle.sspi_play.proofs.BehindTags.{opens_what_is_shown}
use Rattle.sspi_play.proofs.laws.recorded_turns_show_what_is_opened.Goals as goal

pub returns : goal.returns
returns g c = λ tags context turns texts opened.
    opens_what_is_shown (either g.N.Mechanism.REQUESTS g.N.Mechanism.meaning g.K.Mechanism.meaning) tags context turns texts opened
