use Rattle.std.proofs.Common.{◌∙◌, sym}
use Rattle.std.proofs.lemmas.List.{length-map}
use Rattle.sspi_delegate.specs.declared.carried.Carried.{Carried}
use Rattle.sspi_delegate.specs.Link.{sent_texts}
use Rattle.sspi_delegate.proofs.Edits.{failed}
use Rattle.sspi_delegate.proofs.edit.deliver_edited.Goals as goal

pub returns-then-fails : goal.returns-then-fails
returns-then-fails c =
    sym (failed c.args.edits.now (sent_texts c.args.entries.now) c.args.sent.now
    (rw (length-map c.args.entries.now (λ (e : Carried). e.sent)) (sym c.fails.ensures ∙ c.if-fails.true)))
