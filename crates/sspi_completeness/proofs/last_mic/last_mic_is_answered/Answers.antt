use Rattle.sspi_negotiate.specs.Does.{told}
use Rattle.sspi_negotiate.specs.Hand.{hand}
use Rattle.sspi_negotiate.specs.Values.{values_of}
use Rattle.sspi_completeness.proofs.LastMic.{last_answered}
use Rattle.sspi_completeness.proofs.last_mic.last_mic_is_answered.Goals as goal

pub returns : goal.returns
returns g c old new args result mic accepts role_is state_is mic_is =
    last_answered (hand g.N.Mechanism.meaning g.K.Mechanism.meaning) mic (values_of old) (values_of new) args old.mech new.mech old.role
    old.state (told result) role_is state_is mic_is accepts.moves.follows.as_planned
