-- What is said of a record, step by step.
use Rattle.std.specs.Prelude.{◌≡◌, ℕ, true, false, List, Option, None, IsSome, Ok, ◌⊎◌, [], Result}
use Rattle.std.specs.Prelude.{Err, IsErr}
use Rattle.std.specs.Global.{Vec}
use Rattle.std.specs.Str.{is_utf8}
use Rattle.sspi_explain.specs.Explained.{explained}
use Rattle.sspi_scenario.specs.declared.scenario.Scenario.{Scenario}
use Rattle.sspi_scenario.specs.Reading.{IsReadWhole}
use Rattle.sspi_scenario.specs.Scenario.{scenario_of}
use Rattle.sspi_program.specs.declared.command.Command.TheVariants.{Told, Gen}
use Rattle.sspi_program.specs.declared.command.Task.{Task}
use Rattle.sspi_program.specs.declared.record.Conducted.{Conducted}
use Rattle.sspi_program.specs.declared.record.Record.{Record}
use Rattle.sspi_program.specs.declared.said.Said.{Said}
use Rattle.sspi_program.specs.declared.said.Said.TheVariants.{Done, NoScenario, NoText, ReadFault}
use Rattle.sspi_program.specs.declared.said.Said.TheVariants.{OtherWords, NoMemory}
use Rattle.sspi_program.specs.Desk.{SeatsDue}
use Rattle.sspi_program.specs.Generate.{TallyDue}
use Rattle.sspi_program.specs.Kept.{nothing, seating, tallying, keeping}
use Rattle.sspi_program.specs.Promises.{Does}
use Rattle.sspi_program.specs.Seats.{PlainSeat}
use Rattle.sspi_program.specs.Said.{status_of, RecordDue, IsDue}
use Rattle.sspi_program.specs.Commands.{purpose_of}

-- what was read from the source if its text was judged: all of it, or one byte more than a text may
-- have
abbrev pub IsJudged : ℕ → Option (List ℕ) → Option (List ℕ) → Said → Type 0
IsJudged limit before after (Done conducted text) = IsReadWhole limit before after
IsJudged limit before after (NoScenario line) = IsReadWhole limit before after
IsJudged limit before after NoText = IsReadWhole limit before after
IsJudged limit before after ReadFault = Unit {0}
IsJudged limit before after OtherWords = Unit {0}
IsJudged limit before after NoMemory = Unit {0}

-- no read failed, unless that is said
abbrev pub ReadsWell : ℕ → ℕ → Said → Type 0
ReadsWell before now (Done conducted text) = now ≡ before
ReadsWell before now (NoScenario line) = now ≡ before
ReadsWell before now NoText = now ≡ before
ReadsWell before now ReadFault = Unit {0}
ReadsWell before now OtherWords = now ≡ before
ReadsWell before now NoMemory = now ≡ before

-- what a task makes of a scenario
abbrev pub Conducts : Task → Scenario → Said → Type 0
Conducts task scenario (Done conducted written) =
    Does (Told task) None (λ s. s ≡ scenario) conducted written.items
Conducts task scenario (NoScenario line) = ⊥
Conducts task scenario NoText = ⊥
Conducts task scenario ReadFault = ⊥
Conducts task scenario OtherWords = ⊥
Conducts task scenario NoMemory = Unit {0}

-- what is made of this many scenarios
abbrev pub Generates : ℕ → Said → Type 0
Generates count (Done conducted written) = Does (Gen count) None (λ s. Unit {0}) conducted
    written.items
Generates count (NoScenario line) = ⊥
Generates count NoText = ⊥
Generates count ReadFault = ⊥
Generates count OtherWords = ⊥
Generates count NoMemory = Unit {0}

-- what is said if this is kept with its status and this text is due
abbrev pub SaysDue : (ℕ → Conducted) → (ℕ → List ℕ → Type 0) → Said → Type 0
SaysDue kept Due (Done conducted written) = (conducted ≡ kept conducted.status) ×
    IsDue Due conducted.status written.items
SaysDue kept Due other = ⊥

-- what is said of many exchanges
abbrev pub SumsUp : List Record → Said → Type 0
SumsUp tally said = SaysDue (λ status. tallying status tally) (TallyDue tally) said

-- what is said of sessions
abbrev pub SaysOfSeats : List PlainSeat → Said → Type 0
SaysOfSeats seats said = SaysDue (λ status. seating status seats) (SeatsDue seats) said

-- what is said of a record
abbrev pub SaysOf : Record → Said → Type 0
SaysOf kept (Done conducted text) = (conducted ≡ keeping conducted.status kept) ×
    IsSome (status_of kept.outcome) ×
    IsDue (RecordDue kept) conducted.status text.items
SaysOf kept (NoScenario line) = ⊥
SaysOf kept NoText = ⊥
SaysOf kept ReadFault = ⊥
SaysOf kept OtherWords = ⊥
SaysOf kept NoMemory = status_of kept.outcome ≡ None

-- the record is kept with the given status and text; or, if memory for these ran out, with status 5
-- and no text
abbrev pub IsDoneWith : {E : Type 0} → Record → Result (ℕ × Vec ℕ) E → Said → Type 0
IsDoneWith kept told (Done conducted text) = (conducted ≡ keeping conducted.status kept) ×
    ((told ≡ Ok (conducted.status, text)) ⊎
    (IsErr told × (conducted.status ≡ 5) × (text.items ≡ [])))
IsDoneWith kept told (NoScenario line) = ⊥
IsDoneWith kept told NoText = ⊥
IsDoneWith kept told ReadFault = ⊥
IsDoneWith kept told OtherWords = ⊥
IsDoneWith kept told NoMemory = ⊥

-- what is said of a record with the given status and text
abbrev pub SaysWith : {E : Type 0} → Record → Result (ℕ × Vec ℕ) E → Said → Type 0
SaysWith kept told (Done conducted text) = (conducted ≡ keeping conducted.status kept) ×
    IsSome (status_of kept.outcome) ×
    ((told ≡ Ok (conducted.status, text)) ⊎
    (IsErr told × (conducted.status ≡ 5) × (text.items ≡ [])))
SaysWith kept told (NoScenario line) = ⊥
SaysWith kept told NoText = ⊥
SaysWith kept told ReadFault = ⊥
SaysWith kept told OtherWords = ⊥
SaysWith kept told NoMemory = status_of kept.outcome ≡ None

-- what a task makes of a text
abbrev pub CarriesOut : Task → List ℕ → Said → Type 0
CarriesOut task text (Done conducted written) =
    Does (Told task) None (λ scenario. scenario_of (purpose_of task) text ≡ Ok scenario) conducted
    written.items
CarriesOut task text (NoScenario line) = scenario_of (purpose_of task) text ≡ Err line
CarriesOut task text NoText = ⊥
CarriesOut task text ReadFault = ⊥
CarriesOut task text OtherWords = ⊥
CarriesOut task text NoMemory = Unit {0}

-- what is said of a text whose messages are explained
abbrev pub ExplainsText : List ℕ → Said → Type 0
ExplainsText text (Done conducted told) = (conducted ≡ nothing 0) × (told.items ≡ explained text)
ExplainsText text (NoScenario line) = ⊥
ExplainsText text NoText = ⊥
ExplainsText text ReadFault = ⊥
ExplainsText text OtherWords = ⊥
ExplainsText text NoMemory = Unit {0}

-- the same for bytes, which are a text if they are UTF-8
abbrev pub Explains : List ℕ → Said → Type 0
Explains bytes (Done conducted told) =
    (is_utf8 bytes ≡ true) × (conducted ≡ nothing 0) × (told.items ≡ explained bytes)
Explains bytes (NoScenario line) = ⊥
Explains bytes NoText = is_utf8 bytes ≡ false
Explains bytes ReadFault = ⊥
Explains bytes OtherWords = ⊥
Explains bytes NoMemory = is_utf8 bytes ≡ true
