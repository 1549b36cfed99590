-- What a run comes to, by its command and by what its source and its sink show.
use Rattle.std.specs.Prelude.{◌≡◌, ◌⊎◌, ℕ, ◌≤◌, false, List, Option, None, Some, IfSome, IsSome}
use Rattle.std.specs.Prelude.{IsSomeAnd, Ok, Err}
use Rattle.sspi_ber.specs.Outside.{Rose, Wrote, WroteFront}
use Rattle.sspi_scenario.specs.declared.purpose.Purpose.{Purpose}
use Rattle.sspi_scenario.specs.declared.scenario.Scenario.{Scenario}
use Rattle.sspi_scenario.specs.Reading.{IsReadWhole}
use Rattle.sspi_scenario.specs.Scenario.{scenario_of}
use Rattle.sspi_program.specs.declared.command.Command.{Command}
use Rattle.sspi_program.specs.declared.command.Command.TheVariants.{Told, Gen, Explain}
use Rattle.sspi_program.specs.declared.record.Conducted.{Conducted}
use Rattle.sspi_program.specs.declared.said.Said.{Said}
use Rattle.sspi_program.specs.declared.said.Said.TheVariants.{Done, NoScenario, NoText, ReadFault}
use Rattle.sspi_program.specs.declared.said.Said.TheVariants.{OtherWords, NoMemory}
use Rattle.sspi_program.specs.Commands.{task_in, purpose_of, limit_in}
use Rattle.sspi_program.specs.Explain.{is_explainable}
use Rattle.sspi_program.specs.Kept.{nothing}
use Rattle.sspi_program.specs.Promises.{Keeps, Does, Due, EndsSo}
use Rattle.sspi_program.specs.Said.{said_text, said_status, conducted_as, words_text, read_text}
use Rattle.sspi_program.specs.Said.{line_text, no_text}
use Rattle.sspi_program.specs.Status.{IsUnlessWrite, IsUnlessFault}

-- what the source and the sink of a run show at one moment: the bytes that are left and those that
-- were written, if these are exposed, and how often each failed
pub record Outside : Type 0 where
  pub left : Option (List ℕ)
  pub read_faults : ℕ
  pub written : Option (List ℕ)
  pub write_faults : ℕ

abbrev pub outside : Option (List ℕ) → ℕ → Option (List ℕ) → ℕ → Outside
outside left read_faults written write_faults =
    record {
      left = left;
      read_faults = read_faults;
      written = written;
      write_faults = write_faults;
    }

-- ---- what is due

-- the scenario in the text of the source, if that is exposed
abbrev pub IsTold : Purpose → Option (List ℕ) → Scenario → Type 0
IsTold purpose left scenario = IfSome left (λ text. scenario_of purpose text ≡ Ok scenario)

-- the same for the task of a command; a command without one reads no source
abbrev pub IsToldFor : Option Command → Option (List ℕ) → Scenario → Type 0
IsToldFor command left scenario = IfSome (task_in command)
    (λ task. IsTold (purpose_of task) left scenario)

abbrev pub NoneTold : Purpose → Option (List ℕ) → ℕ → Type 0
NoneTold purpose left line = IfSome left (λ text. scenario_of purpose text ≡ Err line)

-- the text of the source cannot be explained
abbrev pub HasNoText : Option (List ℕ) → Type 0
HasNoText left = IfSome left (λ text. is_explainable text ≡ false)

-- what the words and the text of the source come to
abbrev pub Comes : Option Command → Option (List ℕ) → ℕ → ℕ → Said → Type 0
Comes command left faults faults2 (Done conducted text) =
    IsSomeAnd command (λ c. Does c left (IsToldFor command left) conducted text.items)
Comes command left faults faults2 (NoScenario line) =
    IsSomeAnd (task_in command) (λ task. NoneTold (purpose_of task) left line)
Comes command left faults faults2 NoText = (command ≡ Some Explain) × HasNoText left
Comes command left faults faults2 ReadFault = IsSome (limit_in command) × Rose faults faults2
Comes command left faults faults2 OtherWords = command ≡ None
Comes command left faults faults2 NoMemory = IsSome command

-- a text is due with what is said: for a command, by what it keeps and what the source has left
abbrev pub HasText : Option Command → Option (List ℕ) → Said → Type 0
HasText command left (Done conducted text) =
    IsSomeAnd command (λ c. Due c left conducted conducted.status text.items)
HasText command left (NoScenario line) = Unit {0}
HasText command left NoText = Unit {0}
HasText command left ReadFault = Unit {0}
HasText command left OtherWords = Unit {0}
HasText command left NoMemory = ⊥

-- ---- what a run promises

-- what is kept: by a command, what it keeps for the scenario of the source; otherwise nothing
abbrev pub KeepsOnly : Option Command → Option (List ℕ) → Conducted → Type 0
KeepsOnly None left conducted = conducted ≡ nothing conducted.status
KeepsOnly (Some command) left conducted = Keeps command (IsToldFor (Some command) left) conducted

-- a text that is due with this status was written, and nothing else
abbrev pub IsReported : (ℕ → List ℕ → Type 0) → ℕ → Outside → Outside → Type 0
IsReported D status before after = (text : List ℕ) × D status text ×
    Wrote before.written after.written text

-- a line of the text that is to blame was named
pub record WroteLine (purpose : Purpose) (before after : Outside) : Type 0 where
  pub line : ℕ
  pub refused : NoneTold purpose before.left line
  pub wrote : Wrote before.written after.written (line_text line)

-- a command refused the text of the source: it named a line of the text, or said that it cannot be
-- explained
abbrev pub WroteRefusal : Command → Outside → Outside → Type 0
WroteRefusal (Told task) before after = WroteLine (purpose_of task) before after
WroteRefusal (Gen count) before after = ⊥
WroteRefusal Explain before after = HasNoText before.left ×
    Wrote before.written after.written no_text

-- a command refuses a text that is not for it
abbrev pub RefusesText : Command → ℕ → List ℕ → Type 0
RefusesText (Told task) status text = (line : ℕ) → scenario_of (purpose_of task) text ≡ Err line →
    IsUnlessFault 2 status
RefusesText (Gen count) status text = Unit {0}
RefusesText Explain status text = is_explainable text ≡ false → IsUnlessFault 2 status

-- when each status occurs, for any command
pub record HasStatus (command : Option Command) (before after : Outside) (status : ℕ) : Type 0 where
  pub most : status ≤ 6
  -- up to 2: the whole text was read, if one is
  pub whole : status ≤ 2 → IfSome (limit_in command)
      (λ limit. IsReadWhole limit before.left after.left)
  -- 2: the text is not a scenario, or cannot be explained
  pub two : status ≡ 2 → IsSomeAnd command (λ c. WroteRefusal c before after)
  pub refused : IfSome command (λ c. IfSome before.left (RefusesText c status))
  -- up to 2: no read failed
  pub read : status ≤ 2 → after.read_faults ≡ before.read_faults
  -- 3: the source failed
  pub three : status ≡ 3 → IsSome (limit_in command) × Rose before.read_faults after.read_faults ×
      Wrote before.written after.written read_text
  -- 4: the sink failed, and at any other status it did not
  pub four : status ≡ 4 → Rose before.write_faults after.write_faults
  pub clean : (status ≡ 4 → ⊥) → after.write_faults ≡ before.write_faults
  -- 6: the words are not a command
  pub six : status ≡ 6 → (command ≡ None) × Wrote before.written after.written words_text
  pub no_command : command ≡ None → IsUnlessWrite 6 status

-- The whole text was written, and the status is its own; or a proper prefix of it, since the sink
-- failed (4) or ran out of memory (5).
abbrev pub Written : ℕ → List ℕ → Option (List ℕ) → Option (List ℕ) → ℕ → ℕ → ℕ → Type 0
Written own text before after faults faults2 status =
    ((status ≡ own) × Wrote before after text)
    ⊎ (((status ≡ 4) × Rose faults faults2 × WroteFront before after text)
    ⊎ ((status ≡ 5) × WroteFront before after text))

-- what was written is the text that the words and the source call for, or a proper prefix of it
pub record WroteOwed (command : Option Command) (before after : Outside)
    (conducted : Conducted) : Type 0 where
  pub said : Said
  pub owed : Comes command before.left before.read_faults after.read_faults said
  pub keeps : conducted ≡ conducted_as conducted.status said
  -- if the sink failed there was a text, and what it was due for is kept
  pub told : conducted.status ≡ 4 → HasText command before.left said
  pub wrote : Written (said_status said) (said_text said) before.written after.written
      before.write_faults after.write_faults
      conducted.status

-- what a run promises, whatever its words
pub record IsRun (command : Option Command) (before after : Outside) (conducted : Conducted) : Type
    0 where
  pub statuses : HasStatus command before after conducted.status
  -- what is kept at any status, and at 0 and 1 the status and the text that are due for it
  pub kept : KeepsOnly command before.left conducted
  pub reported : conducted.status ≤ 1 →
      IsSomeAnd command (λ c. IsReported (Due c before.left conducted) conducted.status before
      after)
  -- the status if the source exposes its text
  pub ends : IfSome command (λ c. EndsSo c before.left conducted.status)
  pub owed : WroteOwed command before after conducted

-- a run that ended with this status
pub record EndsRun (command : Option Command) (before after : Outside) (status : ℕ) : Type 0 where
  pub conducted : Conducted
  pub status_is : conducted.status ≡ status
  pub runs : IsRun command before after conducted
