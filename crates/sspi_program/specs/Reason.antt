-- What standard error says about a run, in words.
use Rattle.std.specs.Prelude.{ℕ, ◌==◌, ◌&&◌, ◌||◌, nat_le, Bool, is_none, List, [], ◌∷◌, ◌++◌}
use Rattle.std.specs.Prelude.{length, codes, Option, Some, None, Result}
use Rattle.std.specs.Prelude.{if◌then◌else◌}
use Rattle.std.specs.Str.{is_utf8}
use Rattle.sspi_ber.specs.Outside.{WriteCause, Writes}
use Rattle.sspi_ber.specs.declared.wire_kind.WireKind.{WireKind}
use Rattle.sspi_scenario.specs.Reasons as scenario
use Rattle.sspi_program.specs.declared.command.Command.{Command}
use Rattle.sspi_program.specs.declared.command.Command.TheVariants.{Told, Gen, Explain}
use Rattle.sspi_program.specs.Commands.{purpose_of, explain_limit}

-- why a text cannot be explained, or nothing if it can
abbrev pub unexplained_text : List ℕ → List ℕ
unexplained_text text =
    if nat_le (length text) explain_limit
    then (if is_utf8 text then [] else codes "text: not UTF-8")
    else codes "text: more than 2097152 bytes"

-- why a command refuses a text, or nothing if it does not
abbrev pub refused_text : Option Command → List ℕ → List ℕ
refused_text None text = []
refused_text (Some (Told task)) text = scenario.reason_text (purpose_of task) text
refused_text (Some (Gen count)) text = []
refused_text (Some Explain) text = unexplained_text text

-- why a run of this command on this text ended with this status, if neither a report nor the usage
-- says it
abbrev pub reason_text : Option Command → List ℕ → ℕ → List ℕ
reason_text command text status =
    if status == 2 then refused_text command text
    else if status == 3 then codes "standard input: a read failed"
    else if status == 4 then codes "standard output: a write failed"
    else if status == 5 then codes "out of memory"
    else []

-- ---- what is told

-- nothing is told of such a run: the report says it, or the faulty text was not kept
abbrev pub is_silent : Option (List ℕ) → ℕ → Bool
is_silent text status = nat_le status 1 || ((status == 2) && is_none text)

abbrev pub kept_text : Option (List ℕ) → List ℕ
kept_text None = []
kept_text (Some text) = text

-- All of the text was written, or a proper prefix of it where the sink refused the rest. The last
-- two are the sink's counts of faults.
pub record Tells (text : List ℕ) (before after : Option (List ℕ)) (faults faults2 : ℕ) : Type 0
  where
    pub wire : Result (Unit {0}) WireKind
    pub wrote : Writes before after wire text
    pub cause : WriteCause faults faults2 wire

abbrev pub line : List ℕ → List ℕ
line reason = reason ++ 10 ∷ []

-- the reason was told as a line, or that there was no memory to say it
pub data TellsReason (reason : List ℕ) (before after : Option (List ℕ)) (faults faults2 : ℕ)
    : Type 0 where
  told : Tells (line reason) before after faults faults2 →
      TellsReason reason before after faults faults2
  without_memory : Tells (line (codes "out of memory")) before after faults faults2 →
      TellsReason reason before after faults faults2
