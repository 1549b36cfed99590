use Rattle.std.proofs.Common.{length, ap, ◌∙◌}
use Rattle.std.proofs.lemmas.List.{length-reverse}
use Rattle.sspi_program.specs.declared.record.Record.{Record}
use Rattle.sspi_program.proofs.Conducting.{conducts_early}
use Rattle.sspi_program.proofs.EarlyRecord.{told_early}
use Rattle.sspi_program.proofs.words.early.told.Goals as goal

pub returns : goal.returns
returns c has is =
    let early = c.tell-kept.ensures has is in
    conducts_early c.args.made.scenario c.tell-kept.result c.told_text-text.result c.said_with.result
    (ap (λ (k : Record). k.scenario) early.rest) (record { made = c.args.made; early = early })
    (told_early c.args.made c.tell-kept.result c.report_of-report.result c.told_text-text.result (length c.log-entries.result.now) early
    c.report_of-report.ensures (ap length c.log-entries.ensures ∙ length-reverse c.args.made.link.log) c.told_text-text.ensures)
    c.said_with.ensures
