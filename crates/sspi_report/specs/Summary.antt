-- The summary of many exchanges.
use Rattle.std.specs.Prelude.{ℕ, ◌==◌, List, ◌++◌, Bool, false, Result, Ok, Err, codes}
use Rattle.std.specs.Fmt.{decimal}
use Rattle.sspi_delegate.specs.declared.answer.DelegateError.{DelegateError}
use Rattle.sspi_delegate.specs.declared.answer.DelegateError.TheVariants as errors
use Rattle.sspi_delegate.specs.declared.answer.Delegation.{Delegation}
use Rattle.sspi_report.specs.declared.summary.Kind.{Kind}
use Rattle.sspi_report.specs.declared.summary.Kind.TheVariants as kinds
use Rattle.sspi_report.specs.declared.summary.Summary.{Summary}
use Rattle.sspi_report.specs.Entries.{line}

-- the place of a kind among the lines of a summary
abbrev pub place : Kind → ℕ
place kinds.Ok = 0
place kinds.Client = 1
place kinds.Server = 2
place kinds.Read = 3
place kinds.Write = 4
place kinds.Link = 5
place kinds.Turns = 6

abbrev pub is_same : Kind → Kind → Bool
is_same a b = place a == place b

-- whether an exchange had an outcome of this kind; out of memory has no kind
abbrev pub is_of : Kind → Result Delegation DelegateError → Bool
is_of kind (Ok delegation) = is_same kind kinds.Ok
is_of kind (Err (errors.Client error)) = is_same kind kinds.Client
is_of kind (Err (errors.Server error)) = is_same kind kinds.Server
is_of kind (Err (errors.Read end fault)) = is_same kind kinds.Read
is_of kind (Err (errors.Write end)) = is_same kind kinds.Write
is_of kind (Err errors.LinkFault) = is_same kind kinds.Link
is_of kind (Err errors.TurnsSpent) = is_same kind kinds.Turns
is_of kind (Err errors.InsufficientMemory) = false

abbrev pub count_line : List ℕ → ℕ → List ℕ
count_line name count = line (name ++ codes " " ++ decimal count)

abbrev pub summary_text : Summary → List ℕ
summary_text s =
    count_line (codes "runs") s.runs
    ++ count_line (codes "ok") s.ok
    ++ count_line (codes "client") s.client
    ++ count_line (codes "server") s.server
    ++ count_line (codes "read") s.read
    ++ count_line (codes "write") s.write
    ++ count_line (codes "link") s.link
    ++ count_line (codes "turns") s.turns
    ++ count_line (codes "messages") s.messages
