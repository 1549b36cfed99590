use Rattle.std.proofs.Common.{length}
use Rattle.sspi_explain.proofs.Mechs.{Telling}
use Rattle.sspi_explain.proofs.token.tell_mechs.Given as goal

abbrev pub invariant-mechs : goal.invariant-mechs
invariant-mechs l = Telling l.fn.page l.fn.list l.page l.list

abbrev pub decreases-mechs : goal.decreases-mechs
decreases-mechs l = length l.list.rest
