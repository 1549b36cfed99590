-- The words of the program, and what they ask for.
use Rattle.std.specs.Prelude.{ℕ, ◌+◌, ◌&&◌, nat_le, List, [], ◌∷◌, codes, map, Option, None, Some}
use Rattle.std.specs.Prelude.{String, string_bytes, if◌then◌else◌}
use Rattle.std.specs.Option.{option_map}
use Rattle.std.specs.Str.{bytes_eq}
use Rattle.sspi_program.specs.declared.command.Command.{Command}
use Rattle.sspi_program.specs.declared.command.Command.TheVariants.{Told, Gen, Explain}
use Rattle.sspi_program.specs.declared.command.Task.{Task}
use Rattle.sspi_program.specs.declared.command.Task.TheVariants.{Delegate, Play, Gate, Audit, Early}
use Rattle.sspi_program.specs.declared.command.Task.TheVariants.{Desk}
use Rattle.sspi_scenario.specs.Reading.{text_limit}
use Rattle.sspi_scenario.specs.Numbers.{number_of}
use Rattle.sspi_scenario.specs.declared.purpose.Purpose.{Purpose}
use Rattle.sspi_scenario.specs.declared.purpose.Purpose.TheVariants as purposes

abbrev pub task_named : List ℕ → Option Task
task_named word =
    if bytes_eq word (codes "delegate") then Some Delegate
    else if bytes_eq word (codes "play") then Some Play
    else if bytes_eq word (codes "gate") then Some Gate
    else if bytes_eq word (codes "audit") then Some Audit
    else if bytes_eq word (codes "early") then Some Early
    else None

-- a number from 1 to this, in decimal
abbrev pub within : ℕ → Option ℕ → Option ℕ
within most None = None
within most (Some n) = if nat_le 1 n && nat_le n most then Some n else None

abbrev pub counted : ℕ → List ℕ → Option ℕ
counted most digits = within most (number_of digits)

abbrev pub desk_of : ℕ → Command
desk_of count = Told (Desk count)

-- the most scenarios that are made
abbrev pub most_scenarios : ℕ
most_scenarios = 10000

-- the most sessions that a desk has
abbrev pub most_sessions : ℕ
most_sessions = 64

-- a word and a number
abbrev pub numbered_command : List ℕ → List ℕ → Option Command
numbered_command word digits =
    if bytes_eq word (codes "gen") then option_map Gen (counted most_scenarios digits)
    else if bytes_eq word (codes "desk") then option_map desk_of (counted most_sessions digits)
    else None

-- a word alone, which names a task or is `explain`
unfoldable pub command_named : List ℕ → Option Command
command_named word = if bytes_eq word (codes "explain") then Some Explain
    else option_map Told (task_named word)

abbrev pub command_in : List (List ℕ) → Option Command
command_in [] = None
command_in (word ∷ []) = command_named word
command_in (word ∷ digits ∷ []) = numbered_command word digits
command_in (word ∷ second ∷ third ∷ more) = None

abbrev pub command_of : {A : Type 0} → List (String A) → Option Command
command_of words = command_in (map string_bytes words)

-- the task of a command that asks for the scenario of the source
abbrev pub task_in : Option Command → Option Task
task_in None = None
task_in (Some (Told task)) = Some task
task_in (Some (Gen count)) = None
task_in (Some Explain) = None

-- the most bytes of a text whose messages are explained, 2 MiB
abbrev pub explain_limit : ℕ
explain_limit = 2097152

-- how many bytes the text of the source may have, if a command reads it
abbrev pub limit_of : Command → Option ℕ
limit_of (Told task) = Some text_limit
limit_of (Gen count) = None
limit_of Explain = Some explain_limit

abbrev pub limit_in : Option Command → Option ℕ
limit_in None = None
limit_in (Some command) = limit_of command

-- the most bytes taken from the source: one more than its text may have
abbrev pub most_taken : Option ℕ → ℕ
most_taken None = 0
most_taken (Some limit) = limit + 1

abbrev pub purpose_of : Task → Purpose
purpose_of Delegate = purposes.Exchange
purpose_of Play = purposes.Play
purpose_of Gate = purposes.Exchange
purpose_of Audit = purposes.Exchange
purpose_of Early = purposes.Early
purpose_of (Desk count) = purposes.Sessions
