-- What the program does at the words of one end: the end of its scenario, a line, and the exit
-- status.
use Rattle.std.specs.Prelude.{◌≡◌, ℕ, List, Option, Result, Ok, Err}
use Rattle.std.specs.Global.{Vec}
use Rattle.sspi_ber.specs.Outside.{Writes}
use Rattle.sspi_ber.specs.declared.wire_kind.WireKind.{WireKind}
use Rattle.sspi_credssp.specs.declared.turn.End.{End}
use Rattle.sspi_credssp.specs.declared.turn.End.TheVariants.{Client, Server}
use Rattle.sspi_live.specs.Channel.{Channel}
use Rattle.sspi_scenario.specs.declared.reading.TextError.{TextError}
use Rattle.sspi_scenario.specs.declared.reading.TextError.TheVariants.{TooLong, Failed}
use Rattle.sspi_scenario.specs.declared.reading.TextError.TheVariants.{InsufficientMemory}
use Rattle.sspi_scenario.specs.Reading.{ReadsText, TextCause, text_limit}
use Rattle.sspi_channel.specs.declared.answer.ChannelError.{ChannelError}
use Rattle.sspi_channel.specs.declared.answer.ChannelError.TheVariants as channel
use Rattle.sspi_channel.specs.declared.answer.Connected.{Connected}
use Rattle.sspi_channel.specs.declared.answer.Served.{Served}
use Rattle.sspi_channel.specs.Answers.{ConnectsText, ServesText}
use Rattle.sspi_channel.specs.Statuses.{connect_status, error_status, serve_status}
use Rattle.sspi_channel.specs.Texts.{connect_line, error_text, serve_line}

-- the line was written, or a prefix of it, or there was no memory for it; and nothing else was
pub data Says (line : List ℕ) (before after : Option (List ℕ)) : Type 0 where
  written : (wire : Result (Unit {0}) WireKind) → Writes before after wire line →
      Says line before after
  without_memory : after ≡ before → Says line before after

-- the end gave an answer, which the line and the status report
abbrev pub EndsAs : End → List ℕ → Channel → Channel → Option (List ℕ) → Option (List ℕ) → ℕ →
    Type 0
EndsAs Server text before after told told2 status =
    (answer : Result Served ChannelError) × ServesText text before after answer ×
    Says (serve_line answer) told told2
    × (status ≡ serve_status answer)
EndsAs Client text before after told told2 status =
    (answer : Result Connected ChannelError) × ConnectsText text before after answer ×
    Says (connect_line answer) told told2
    × (status ≡ connect_status answer)

-- ---- the text of a file

abbrev pub file_error : TextError → ChannelError
file_error TooLong = channel.Scenario 0
file_error Failed = channel.ReadFault
file_error InsufficientMemory = channel.InsufficientMemory

-- The end ran by the text of the file; or the file gave none, which the line and the status report,
-- and the channel is as it was. What the file has left may be exposed or not, and its count of
-- faults changes as `read_text` says.
pub data EndsFile (end : End) (left : Option (List ℕ)) (faults faults2 : ℕ) (before after : Channel)
    (told told2 : Option (List ℕ))
    (status : ℕ) : Type 0 where
  by_text : (text : Vec ℕ) → ReadsText text_limit left (Ok text) → faults2 ≡ faults →
      EndsAs end text.items before after told told2 status →
      EndsFile end left faults faults2 before after told told2 status
  unread : (error : TextError) → ReadsText text_limit left (Err error) →
      TextCause faults faults2 (Err error) → after ≡ before →
      Says (error_text (file_error error)) told told2 → status ≡ error_status (file_error error) →
      EndsFile end left faults faults2 before after told told2 status
