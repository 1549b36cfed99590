-- An auditor says yes to the turns and the log of an exchange.
use Rattle.std.proofs.Common.{ℕ, List, [], reverse, sym, ◌∙◌, subst}
use Rattle.std.proofs.lemmas.List.{append-nil, reverse-reverse}
use Rattle.sspi_mech.specs.Kerberos.{kerberos_meaning}
use Rattle.sspi_mech.specs.KerberosLaws.{kerberos_laws}
use Rattle.sspi_mech.specs.Ntlm.{ntlm_meaning}
use Rattle.sspi_mech.specs.NtlmLaws.{ntlm_laws}
use Rattle.sspi_credssp.specs.declared.turn.Turn.{Turn}
use Rattle.sspi_credssp.proofs.ContextLaws.{lawful}
use Rattle.sspi_delegate.specs.declared.carried.Carried.{Carried}
use Rattle.sspi_audit.specs.declared.verdict.Verdict.{Verdict}
use Rattle.sspi_audit.specs.declared.verdict.Verdict.TheVariants.{Yes, No}
use Rattle.sspi_audit.specs.Left.{LeavesShown}
use Rattle.sspi_audit.specs.Shown.{ShownRun}
use Rattle.sspi_audit.specs.Verdicts.{Judges}
use Rattle.sspi_audit.proofs.Runs.{run_is_shown}
use Rattle.sspi_program.specs.declared.record.Record.{Record}
use Rattle.sspi_program.specs.Audit.{IsJudged, IsYes, IsAudited}
use Rattle.sspi_program.specs.Delegate.{HasExchange}
use Rattle.sspi_program.specs.Exchange.{plain_meaning}

judged_yes : (turns : List Turn) (log : List Carried) (verdict : Verdict) → ShownRun (reverse turns) log → Judges turns log verdict →
    IsYes verdict
judged_yes turns log (Yes sealing) shown judges = tt
judged_yes turns log (No place) shown judges = judges.1 shown

-- of an exchange that began with an empty log
left_shown : (turns : List Turn) (log : List Carried) → LeavesShown [] log turns → ShownRun (reverse (reverse turns)) (reverse log)
left_shown turns log left = subst (λ (l : List Turn). ShownRun l (reverse log)) (sym (reverse-reverse turns))
    (subst (λ (l : List Carried). ShownRun turns (reverse l)) (sym (left.parts ∙ append-nil left.added)) left.shown)

pub is_audited : (r : Record) → HasExchange r → (status : ℕ) (text : List ℕ) → IsJudged r status text → IsAudited r status text
is_audited r has status text judged = record {
  judged = judged;
  is_shown = judged_yes (reverse r.transcript.turns) (reverse r.link.log) judged.verdict
      (left_shown r.transcript.turns r.link.log (run_is_shown plain_meaning
      (lawful 0 2 ntlm_meaning kerberos_meaning ntlm_laws kerberos_laws) _ _ _ _ [] r.link.log r.transcript.turns
      has.exchange.delegates.the_turns_are_a_run)) judged.judges;
}
