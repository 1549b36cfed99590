use Rattle.std.proofs.Common.{Some, rules}
use Rattle.sspi_explain.specs.Request.{octets_told}
use Rattle.sspi_explain.proofs.request.tell_octets.Goals as goal

pub returns-in_ok-content-in-Some-2 : goal.returns-in_ok-content-in-Some-2
unfolding octets_told
returns-in_ok-content-in-Some-2 c = (Some c.in_ok-content-in-Some.content.now, search rules)
