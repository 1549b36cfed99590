-- What the word `audit` promises.
use Rattle.std.specs.Prelude.{◌≡◌, ℕ, List, ◌++◌, reverse, Some}
use Rattle.sspi_audit.specs.declared.verdict.Verdict.{Verdict}
use Rattle.sspi_audit.specs.declared.verdict.Verdict.TheVariants.{Yes, No}
use Rattle.sspi_audit.specs.Verdicts.{Judges}
use Rattle.sspi_report.specs.Audit.{audit_line}
use Rattle.sspi_program.specs.declared.record.Record.{Record}
use Rattle.sspi_program.specs.Said.{status_of, report_of}

-- The status and the report of the exchange, followed by the line of the verdict on its turns and
-- its log.
pub record IsJudged (kept : Record) (status : ℕ) (text : List ℕ) : Type 0 where
  pub verdict : Verdict
  pub judges : Judges (reverse kept.transcript.turns) (reverse kept.link.log) verdict
  pub status_is : status_of kept.outcome ≡ Some status
  pub text_is : text ≡ report_of kept ++ audit_line verdict

abbrev pub IsYes : Verdict → Type 0
IsYes (Yes sealing) = Unit {0}
IsYes (No place) = ⊥

-- That verdict is yes, since two ends made the turns.
pub record IsAudited (kept : Record) (status : ℕ) (text : List ℕ) : Type 0 where
  pub judged : IsJudged kept status text
  pub is_shown : IsYes judged.verdict
