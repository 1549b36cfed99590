use Rattle.std.proofs.Common.{◌≡◌, ◌*◌, ◌^◌, ◌≤◌, take, length}
use Rattle.std.specs.List.{sum_by}
use Rattle.sspi_program.specs.declared.record.Record.{Record}
use Rattle.sspi_program.proofs.words.count.messages.Given as goal

abbrev pub invariant-loop-record : goal.invariant-loop-record
invariant-loop-record l = record {
  sum : l.sum ≡ sum_by (λ (r : Record). length r.link.log) (take l.record-index l.tally);
  fits : l.sum ≤ 2 ^ 64 * l.record-index;
}
