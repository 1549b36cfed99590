use Rattle.std.proofs.Common.{◌≡◌, string_bytes, take}
use Rattle.sspi_report.specs.Entries.{log_text}
use Rattle.sspi_report.proofs.early.early_report.Given as goal

abbrev pub invariant-loop-entry : goal.invariant-loop-entry
invariant-loop-entry l = string_bytes l.text ≡ log_text (take l.entry-index l.entries)
