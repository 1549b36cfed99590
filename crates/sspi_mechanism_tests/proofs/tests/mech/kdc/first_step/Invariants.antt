use Rattle.std.proofs.Common.{◌≡◌}
use Rattle.sspi_mechanism_tests.proofs.Rounds.{rounds_left, Asked}
use Rattle.sspi_mechanism_tests.proofs.tests.mech.kdc.first_step.Given as goal

abbrev pub invariant-questions : goal.invariant-questions
invariant-questions g l = record {
  counts : g.M.Mechanism.meaning.counts l.client ≡ g.M.Mechanism.meaning.counts l.fn.client;
  asked : Asked g.M.Mechanism.meaning l.answer l.client l.questions l.allowed;
}

abbrev pub decreases-questions : goal.decreases-questions
decreases-questions g l = rounds_left l.answer (g.M.Mechanism.meaning.left l.client)
