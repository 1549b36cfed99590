-- What follows the report of a delegation: the early result.
use Rattle.std.specs.Prelude.{ℕ, List, ◌++◌, Option, None, Some, Result, Ok, Err, codes}
use Rattle.sspi_delegate.specs.declared.carried.Carried.{Carried}
use Rattle.sspi_early.specs.declared.answer.Early.{Early}
use Rattle.sspi_early.specs.declared.answer.EarlyError.{EarlyError}
use Rattle.sspi_early.specs.declared.answer.EarlyError.TheVariants.{Delegate, Policy, LinkFault}
use Rattle.sspi_early.specs.declared.answer.EarlyError.TheVariants.{Read, InsufficientMemory}
use Rattle.sspi_tsreq.specs.declared.early.EarlyUserAuthResult.{EarlyUserAuthResult}
use Rattle.sspi_tsreq.specs.declared.early.EarlyUserAuthResult.TheVariants.{Success, AccessDenied}
use Rattle.sspi_report.specs.Entries.{line, log_text}
use Rattle.sspi_report.specs.Names.{fault_name}
use Rattle.sspi_report.specs.Report.{closed_by}

abbrev pub result_name : EarlyUserAuthResult → List ℕ
result_name Success = codes "success"
result_name AccessDenied = codes "denied"

-- what the server told, and what the client heard
abbrev pub heard_line : EarlyUserAuthResult → EarlyUserAuthResult → List ℕ
heard_line told heard = line (codes "early told=" ++ result_name told ++ codes " heard=" ++
    result_name heard)

-- none if the delegation failed, if the policy failed, and if memory ran out
abbrev pub early_line : Result Early EarlyError → Option (List ℕ)
early_line (Ok early) = Some (heard_line early.told early.heard)
early_line (Err (Read kind)) = Some (line (codes "early read " ++ fault_name kind))
early_line (Err LinkFault) = Some (line (codes "early link"))
early_line (Err Policy) = None
early_line (Err (Delegate error)) = None
early_line (Err InsufficientMemory) = None

-- the lines of the entries that came after the delegation, the first entry first, and then that of
-- the result; nothing if the result has no line
abbrev pub early_text : List Carried → Result Early EarlyError → List ℕ
early_text entries outcome = closed_by (log_text entries) (early_line outcome)
