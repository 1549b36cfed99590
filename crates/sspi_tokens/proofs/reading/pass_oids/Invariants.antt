use Rattle.std.proofs.Common.{length}
use Rattle.sspi_tokens.proofs.OidsLoop.{Passed}
use Rattle.sspi_tokens.proofs.reading.pass_oids.Given as goal

abbrev pub invariant-oids : goal.invariant-oids
invariant-oids l = Passed l.fn.source l.source

abbrev pub decreases-oids : goal.decreases-oids
decreases-oids l = length l.source
