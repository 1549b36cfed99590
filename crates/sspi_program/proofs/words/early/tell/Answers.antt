use Rattle.sspi_program.proofs.EarlyRecord.{early_of, no_other}
use Rattle.sspi_program.proofs.words.early.tell.Goals as goal
use Rattle.sspi_program.proofs.words.early.tell.Goals.{in-Delegated, in-Played, in-Early}

pub returns : goal.returns
returns c has is = elim c.match-outcome.branch [
  | in-Delegated w ↦ rw (w.link-is, w.policy-is, w.outcome-is)
      (early_of c.args.made w.in-Delegated.answer w.tell_early.new.link c.args.policy w.tell_early.new.policy w.tell_early.result has is
      w.in-Delegated.is w.tell_early.ensures.goes_on)
  | in-Played w ↦ no_other c.args.made _ has w.in-Played.is (λ answer e. absurd cc)
  | in-Early w ↦ no_other c.args.made _ has w.in-Early.is (λ answer e. absurd cc)
]
