-- One side of a channel while the other is used, and a refused text, as private functions have them.
use Rattle.std.specs.Prelude.{ℕ, List, Option}
use Rattle.sspi_live.specs.Channel.{Channel}
use Rattle.sspi_scenario.specs.declared.scenario.ScenarioError.{ScenarioError}
use Rattle.sspi_scenario.specs.declared.scenario.ScenarioError.TheVariants as texts
use Rattle.sspi_channel.specs.declared.answer.ChannelError.{ChannelError}
use Rattle.sspi_channel.specs.declared.answer.ChannelError.TheVariants as channel
use Rattle.sspi_channel.specs.declared.counted.Counted.{Counted}

-- the state of a counted sink, or of a source, together with this state of its channel's other side
abbrev pub sink_channel : {W : Type 0} → (W → Option (List ℕ)) → Option (List ℕ) → ℕ → Counted W →
    Channel
sink_channel written left read_faults sink =
    record {
      left = left;
      read_faults = read_faults;
      written = written sink.inner;
      write_faults = sink.faults;
    }

abbrev pub source_channel : {S : Type 0} → (S → Option (List ℕ)) → Option (List ℕ) → ℕ → Counted S →
    Channel
source_channel left written write_faults source =
    record {
      left = left source.inner;
      read_faults = source.faults;
      written = written;
      write_faults = write_faults;
    }

abbrev pub text_error : ScenarioError → ChannelError
text_error (texts.Line line) = channel.Scenario line
text_error texts.InsufficientMemory = channel.InsufficientMemory
