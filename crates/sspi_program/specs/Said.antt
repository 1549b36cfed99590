-- What a run says: its exit status and its text, before they are written.
use Rattle.std.specs.Prelude.{◌≡◌, ℕ, ◌⊎◌, List, [], ◌∷◌, ◌++◌, codes, decimal, reverse, Option}
use Rattle.std.specs.Prelude.{None, Some, Result, Ok, Err}
use Rattle.std.specs.Option.{option_map}
use Rattle.sspi_delegate.specs.declared.answer.Delegation.{Delegation}
use Rattle.sspi_delegate.specs.declared.answer.DelegateError.{DelegateError}
use Rattle.sspi_delegate.specs.declared.answer.DelegateError.TheVariants as errors
use Rattle.sspi_early.specs.declared.answer.Early.{Early}
use Rattle.sspi_early.specs.declared.answer.EarlyError.{EarlyError}
use Rattle.sspi_early.specs.declared.answer.EarlyError.TheVariants as early_errors
use Rattle.sspi_tsreq.specs.declared.early.EarlyUserAuthResult.{EarlyUserAuthResult}
use Rattle.sspi_tsreq.specs.declared.early.EarlyUserAuthResult.TheVariants.{Success, AccessDenied}
use Rattle.sspi_report.specs.Play.{play_text}
use Rattle.sspi_report.specs.Report.{report_text}
use Rattle.sspi_program.specs.declared.record.Conducted.{Conducted}
use Rattle.sspi_program.specs.declared.record.Record.{Record}
use Rattle.sspi_program.specs.declared.record.RunOutcome.{RunOutcome}
use Rattle.sspi_program.specs.declared.record.RunOutcome.TheVariants as outcomes
use Rattle.sspi_program.specs.declared.record.RunOutcome.TheVariants.{Delegated, Played}
use Rattle.sspi_program.specs.declared.said.Said.{Said}
use Rattle.sspi_program.specs.declared.said.Said.TheVariants.{Done, NoScenario, NoText, ReadFault}
use Rattle.sspi_program.specs.declared.said.Said.TheVariants.{OtherWords, NoMemory}
use Rattle.sspi_program.specs.Kept.{nothing, with_status}

abbrev pub with_newline : List ℕ → List ℕ
with_newline text = text ++ 10 ∷ []

abbrev pub words_text : List ℕ
words_text = with_newline (codes "error: words")

abbrev pub read_text : List ℕ
read_text = with_newline (codes "error: read")

abbrev pub no_text : List ℕ
no_text = with_newline (codes "error: text")

abbrev pub line_text : ℕ → List ℕ
line_text line = with_newline (codes "error: scenario line " ++ decimal line)

-- ---- the report of a record

-- 0 if the server has the credentials, 1 if the exchange was refused; none if memory ran out
abbrev pub delegated_status : Result Delegation DelegateError → Option ℕ
delegated_status (Ok delegation) = Some 0
delegated_status (Err errors.InsufficientMemory) = None
delegated_status (Err error) = Some 1

-- 0 if the client heard that its user may log on, and otherwise 1
abbrev pub heard_status : EarlyUserAuthResult → ℕ
heard_status Success = 0
heard_status AccessDenied = 1

abbrev pub early_status : Result Early EarlyError → Option ℕ
early_status (Ok early) = Some (heard_status early.heard)
early_status (Err early_errors.InsufficientMemory) = None
early_status (Err error) = Some 1

-- the same for every outcome; a play is never refused
abbrev pub status_of : RunOutcome → Option ℕ
status_of (Delegated answer) = delegated_status answer
status_of (Played (Ok played)) = Some 0
status_of (Played (Err error)) = None
status_of (outcomes.Early answer) = early_status answer

-- The report of the whole log or of all turns, the first one first. That of an early result has two
-- parts, which `early` puts together.
abbrev pub report_by : RunOutcome → Record → List ℕ
report_by (Delegated answer) kept = report_text (reverse kept.link.log) answer
report_by (Played (Ok played)) kept = play_text (reverse kept.transcript.turns) played
report_by (Played (Err error)) kept = []
report_by (outcomes.Early answer) kept = []

abbrev pub report_of : Record → List ℕ
report_of kept = report_by kept.outcome kept

-- the status and the text that are due for a record; none if memory ran out
abbrev pub record_due : Record → Option (ℕ × List ℕ)
record_due kept = option_map (λ status. (status, report_of kept)) (status_of kept.outcome)

abbrev pub RecordDue : Record → ℕ → List ℕ → Type 0
RecordDue kept status text = record_due kept ≡ Some (status, text)

-- this status and this text are due; or memory for the text ran out, and there is none
abbrev pub IsDue : (ℕ → List ℕ → Type 0) → ℕ → List ℕ → Type 0
IsDue D status text = D status text ⊎ ((status ≡ 5) × (text ≡ []))

-- ---- what is said

abbrev pub said_text : Said → List ℕ
said_text (Done conducted text) = text.items
said_text (NoScenario line) = line_text line
said_text NoText = no_text
said_text ReadFault = read_text
said_text OtherWords = words_text
said_text NoMemory = []

-- the status that is due with the text
abbrev pub said_status : Said → ℕ
said_status (Done conducted text) = conducted.status
said_status (NoScenario line) = 2
said_status NoText = 2
said_status ReadFault = 3
said_status OtherWords = 6
said_status NoMemory = 5

-- a run that says this and ended with this status
abbrev pub conducted_as : ℕ → Said → Conducted
conducted_as status (Done conducted text) = with_status status conducted
conducted_as status (NoScenario line) = nothing status
conducted_as status NoText = nothing status
conducted_as status ReadFault = nothing status
conducted_as status OtherWords = nothing status
conducted_as status NoMemory = nothing status
