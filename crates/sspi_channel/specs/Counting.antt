-- How a source or a sink that counts its failed calls counts them: each once, and no other call.
use Rattle.std.specs.Prelude.{◌≡◌, ℕ, Result, Ok, Err}
use Rattle.sspi_ber.specs.declared.sink.SinkError.{SinkError}
use Rattle.sspi_ber.specs.declared.sink.SinkError.TheVariants as sink_errors
use Rattle.sspi_ber.specs.declared.source.SourceError.{SourceError}
use Rattle.sspi_ber.specs.declared.source.SourceError.TheVariants as source_errors
use Rattle.sspi_types.specs.Counting.{Counts}

abbrev pub CountsRead : {X : Type 0} → ℕ → ℕ → Result X SourceError → Type 0
CountsRead before now (Ok x) = now ≡ before
CountsRead before now (Err source_errors.Failed) = Counts before now

abbrev pub CountsWrite : {X : Type 0} → ℕ → ℕ → Result X SinkError → Type 0
CountsWrite before now (Ok x) = now ≡ before
CountsWrite before now (Err sink_errors.Failed) = Counts before now
CountsWrite before now (Err sink_errors.InsufficientMemory) = now ≡ before
