use Rattle.std.proofs.Common.{◌≡◌, false, drop, length}
use Rattle.sspi_delegate.specs.Edits.{fails}
use Rattle.sspi_delegate.specs.Link.{edited, sent_texts}
use Rattle.sspi_delegate.proofs.edit.apply_all.Given as goal

abbrev pub invariant-loop-edit : goal.invariant-loop-edit
invariant-loop-edit l = fails (length l.entries) l.edits ≡ false →
    edited (drop l.edit-index l.edits) (sent_texts l.entries) l.text ≡ edited l.edits (sent_texts l.entries) l.sent
