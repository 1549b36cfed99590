-- The line of an audit.
use Rattle.std.specs.Prelude.{ℕ, List, ◌++◌, None, Some, codes}
use Rattle.std.specs.Fmt.{decimal}
use Rattle.sspi_audit.specs.declared.verdict.Verdict.{Verdict}
use Rattle.sspi_audit.specs.declared.verdict.Verdict.TheVariants.{Yes, No}
use Rattle.sspi_report.specs.Entries.{line}

-- the turn that sealed the credentials, or the one at fault, by its number
abbrev pub audit_line : Verdict → List ℕ
audit_line (Yes (Some turn)) = line (codes "audit yes sealed=" ++ decimal turn)
audit_line (Yes None) = line (codes "audit yes sealed=-")
audit_line (No turn) = line (codes "audit no " ++ decimal turn)
