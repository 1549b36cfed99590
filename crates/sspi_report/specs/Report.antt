-- The report of an exchange.
use Rattle.std.specs.Prelude.{ℕ, List, [], ◌++◌, Option, None, Some, Result}
use Rattle.sspi_delegate.specs.declared.answer.DelegateError.{DelegateError}
use Rattle.sspi_delegate.specs.declared.answer.Delegation.{Delegation}
use Rattle.sspi_delegate.specs.declared.carried.Carried.{Carried}
use Rattle.sspi_report.specs.Entries.{log_text}
use Rattle.sspi_report.specs.Outcome.{outcome_line}

-- the lines of the log and then that of the outcome; nothing if the outcome has no line
abbrev pub closed_by : List ℕ → Option (List ℕ) → List ℕ
closed_by lines None = []
closed_by lines (Some last) = lines ++ last

-- the report of a log, the first entry first, and of an outcome
unfoldable pub report_text : List Carried → Result Delegation DelegateError → List ℕ
report_text log outcome = closed_by (log_text log) (outcome_line outcome)
