use Rattle.std.proofs.Common.{◌∙◌}
use Rattle.sspi_negotiate.proofs.Slash.{host_behind, host_whole}
use Rattle.sspi_negotiate.proofs.target.host_of.Goals as goal

pub returns-in-None : goal.returns-in-None
returns-in-None c = host_whole c.args.target.now c.in-None.ensures

pub returns-in-Some : goal.returns-in-Some
returns-in-Some c = c.after.ensures ∙ host_behind c.args.target.now c.in-Some.at c.in-Some.ensures
