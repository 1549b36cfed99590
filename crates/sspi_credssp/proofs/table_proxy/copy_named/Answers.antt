use Rattle.std.proofs.Common.{◌∙◌, rules}
use Rattle.sspi_credssp.proofs.Proxies.{candidates_none, candidates_taken, candidates_left}
use Rattle.sspi_credssp.proofs.table_proxy.copy_named.Goals as goal
use Rattle.sspi_credssp.proofs.table_proxy.copy_named.Goals.{then-eq_ignore_ascii_case+in_ok-clone+in_ok-push, else-eq_ignore_ascii_case}

pub loop-entry-init : goal.loop-entry-init
loop-entry-init c = c.new-copies.ensures.items ∙ candidates_none _

pub loop-entry-preserved : goal.loop-entry-preserved
loop-entry-preserved c = elim c.if-eq_ignore_ascii_case.branch [
  | then-eq_ignore_ascii_case+in_ok-clone+in_ok-push w ↦
      candidates_taken c.args.entries.now c.args.username.now c.loop-entry.entry-index c.entry-item.result c.loop-entry.copies.items _
      c.loop-entry-test.true c.entry-item.is (search rules) (search rules) c.loop-entry.invariant
  | else-eq_ignore_ascii_case w ↦
      candidates_left c.args.entries.now c.args.username.now c.loop-entry.entry-index c.entry-item.result c.loop-entry.copies.items _
      c.loop-entry-test.true c.entry-item.is (search rules) (search rules) c.loop-entry.invariant
]
