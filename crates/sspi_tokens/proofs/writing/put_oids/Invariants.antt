use Rattle.std.proofs.Common.{take}
use Rattle.sspi_tokens.specs.Spelling.{oids_text}
use Rattle.sspi_tokens.specs.Writing.{Put}
use Rattle.sspi_tokens.proofs.writing.put_oids.Given as goal

abbrev pub invariant-loop-oid : goal.invariant-loop-oid
invariant-loop-oid l = Put l.fn.sink l.sink (oids_text (take l.oid-index l.oids))
