use Rattle.std.proofs.Common.{length}
use Rattle.sspi_tokens.proofs.OidsLoop.{Reading}
use Rattle.sspi_tokens.proofs.copying.read_oids.Given as goal

abbrev pub invariant-oids : goal.invariant-oids
invariant-oids l = Reading l.fn.source l.oids.items l.source

abbrev pub decreases-oids : goal.decreases-oids
decreases-oids l = length l.source
