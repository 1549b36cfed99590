use Rattle.std.proofs.Common.{◌≡◌, ℕ, ap, ◌∙◌, string_bytes}
use Rattle.std.specs.Global.{Vec}
use Rattle.sspi_report.specs.Summary.{summary_text}
use Rattle.sspi_program.specs.Generate.{summary_of}
use Rattle.sspi_program.proofs.Conducting.{sums_done}
use Rattle.sspi_program.proofs.words.generate.summed.Goals as goal

pub returns-in-Ok : goal.returns-in-Ok
returns-in-Ok c =
    let bytes : c.into_bytes.result.items ≡ string_bytes c.in-Ok.text = ap (λ (v : Vec ℕ). v.items) c.into_bytes.ensures.value in
    sums_done c.args.tally c.tallying.result c.into_bytes.result.items c.tallying.ensures
    (bytes ∙ c.in-Ok.ensures ∙ ap summary_text (c.summary_of.ensures ∙ ap summary_of c.as_slice.ensures))
