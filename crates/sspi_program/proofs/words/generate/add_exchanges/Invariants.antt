use Rattle.sspi_program.specs.Generate.{AreNumbered}
use Rattle.sspi_program.proofs.words.generate.add_exchanges.Given as goal

abbrev pub invariant-loop-number : goal.invariant-loop-number
invariant-loop-number l = AreNumbered 0 l.fn.tally → AreNumbered l.number l.tally
