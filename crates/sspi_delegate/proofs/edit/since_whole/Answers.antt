use Rattle.std.proofs.Common.{◌∙◌, length, refl, sym, arith}
use Rattle.std.proofs.lemmas.Option.{slice_get_read}
use Rattle.sspi_delegate.proofs.Edits.{none_left, skipped}
use Rattle.sspi_delegate.proofs.edit.since_whole.Goals as goal
use Rattle.sspi_delegate.proofs.edit.since_whole.Goals.{then-gives_whole, else-gives_whole}

pub loop-place-preserved : goal.loop-place-preserved
loop-place-preserved c =
    let edits = c.args.edits.now in
    let edit = c.index-edits-place.result in
    let there = slice_get_read edits (length edits) c.loop-place.place edit refl c.loop-place-test.true c.index-edits-place.is in
    elim c.if-gives_whole.branch [
      | then-gives_whole w ↦ record {
        within = omega arith;
        same = λ earlier sent at none.
            let whole = sym c.gives_whole.ensures ∙ w.if-gives_whole.true in
            rw w.start-is (skipped edits c.loop-place.place edit earlier sent sent there (rw at whole) (rw at none));
        none = none_left c.args.entry c.if-gives_whole.start edits;
      }
      | else-gives_whole w ↦ record {
        within = omega arith;
        same = λ earlier sent at none. rw w.start-is (c.loop-place.invariant.same earlier sent at none);
        none = none_left c.args.entry c.if-gives_whole.start edits;
      }
    ]
