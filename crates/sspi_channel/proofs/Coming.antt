-- The outcome of a text that is no scenario for an end.
use Rattle.std.proofs.Common.{◌≡◌, ℕ, List, Result, Ok, Err, refl}
use Rattle.sspi_live.specs.Channel.{Channel}
use Rattle.sspi_scenario.specs.declared.purpose.Purpose.{Purpose}
use Rattle.sspi_scenario.specs.declared.scenario.Scenario.{Scenario}
use Rattle.sspi_scenario.specs.declared.scenario.ScenarioError.{ScenarioError}
use Rattle.sspi_scenario.specs.declared.scenario.ScenarioError.TheVariants as texts
use Rattle.sspi_scenario.specs.Scenario.{Parses}
use Rattle.sspi_channel.specs.declared.answer.ChannelError.{ChannelError}
use Rattle.sspi_channel.specs.Answers.{ComesOf, of_none, without_memory}
use Rattle.sspi_channel.specs.Sides.{text_error}

pub refused_comes : {X : Type 0} (purpose : Purpose) (text : List ℕ) (Runs : Scenario → Channel → Channel → Result X ChannelError → Type 0)
    (now : Channel) (error : ScenarioError) → Parses purpose text (Err error) →
    ComesOf purpose text Runs now now (Err (text_error error))
refused_comes purpose text Runs now (texts.Line line) parsed = of_none line parsed refl refl
refused_comes purpose text Runs now texts.InsufficientMemory parsed = without_memory refl refl
