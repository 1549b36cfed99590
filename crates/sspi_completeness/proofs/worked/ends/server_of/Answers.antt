use Rattle.std.proofs.Common.{arith}
use Rattle.std.proofs.lemmas.Grind.{common_steps}
use Rattle.sspi_completeness.proofs.worked.ends.server_of.Goals as goal

pub returns : goal.returns
returns c x key_is identity_is version_is least_is mode_is = let proxy_is = c.proxy_of.ensures x.identity identity_is in
    grind (arith, common_steps)
