use Rattle.std.proofs.Common.{◌∙◌, rules}
use Rattle.sspi_negotiate.proofs.KnownEntries.{named_none, named_taken, named_left}
use Rattle.sspi_negotiate.proofs.known.copy_named.Goals as goal
use Rattle.sspi_negotiate.proofs.known.copy_named.Goals.{then-eq_ignore_ascii_case+in_ok-clone+in_ok-push, else-eq_ignore_ascii_case}

pub loop-entry-init : goal.loop-entry-init
loop-entry-init c = c.new-copies.ensures.items ∙ named_none _

pub loop-entry-preserved : goal.loop-entry-preserved
loop-entry-preserved c = elim c.if-eq_ignore_ascii_case.branch [
  | then-eq_ignore_ascii_case+in_ok-clone+in_ok-push w ↦
      named_taken c.args.known.now c.args.name.now c.loop-entry.entry-index c.entry-item.result c.loop-entry.copies.items _
      c.loop-entry-test.true c.entry-item.is (search rules) (search rules) c.loop-entry.invariant
  | else-eq_ignore_ascii_case w ↦
      named_left c.args.known.now c.args.name.now c.loop-entry.entry-index c.entry-item.result c.loop-entry.copies.items _
      c.loop-entry-test.true c.entry-item.is (search rules) (search rules) c.loop-entry.invariant
]
