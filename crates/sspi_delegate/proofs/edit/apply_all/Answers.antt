use Rattle.std.proofs.Common.{◌∙◌, length, refl, arith}
use Rattle.std.proofs.lemmas.Bool.{eq-eqb, ne_eqb}
use Rattle.std.proofs.lemmas.List.{length-map}
use Rattle.std.proofs.lemmas.Option.{slice_get_read}
use Rattle.sspi_delegate.specs.declared.carried.Carried.{Carried}
use Rattle.sspi_delegate.specs.Link.{sent_texts}
use Rattle.sspi_delegate.proofs.Edits.{applied, passes_at}
use Rattle.sspi_delegate.proofs.edit.apply_all.Goals as goal
use Rattle.sspi_delegate.proofs.edit.apply_all.Goals.{then-edit-entries+in_ok-text-2, else-edit-entries}

pub loop-edit-preserved : goal.loop-edit-preserved
loop-edit-preserved c = λ none.
    let edits = c.args.edits.now in
    let entries = c.args.entries.now in
    let edit = c.edit-item.result in
    let got = slice_get_read edits (length edits) c.loop-edit.edit-index edit refl c.loop-edit-test.true c.edit-item.is in
    let count = length-map entries (λ (e : Carried). e.sent) in
    applied edits c.loop-edit.edit-index _ edit (sent_texts entries) c.loop-edit.text c.if-edit-entries.text (omega arith) got
    (elim c.if-edit-entries.branch [
      | then-edit-entries+in_ok-text-2 w ↦
          let here = eq-eqb edit.entry (length entries) w.if-edit-entries.true in
          rw (count, here, w.text-is)
          (w.in_ok-text-2.ensures (passes_at (length entries) c.loop-edit.edit-index edits edit got none here))
      | else-edit-entries w ↦ rw (count, ne_eqb edit.entry (length entries) w.if-edit-entries.false, w.text-is) refl
    ])
    ∙ c.loop-edit.invariant none
