use Rattle.std.proofs.Common.{rules}
use Rattle.sspi_negotiate.proofs.KnownEntries.{none_known, some_known}
use Rattle.sspi_negotiate.proofs.Passing.{among_part, among_none}
use Rattle.sspi_negotiate.proofs.negotiate.Negotiate.identify_as.Goals as goal

pub returns-in_ok-found-clause-step : goal.returns-in_ok-found-clause-step
returns-in_ok-found-clause-step g c = among_part _ c.in_ok-found.found.items (search rules)
    (some_known c.args.name.now c.args.self.now.known _ (search rules) (search rules)) (search rules)

pub returns-else-is_known-clause-step : goal.returns-else-is_known-clause-step
returns-else-is_known-clause-step g c = among_none _
    (none_known c.args.name.now c.args.self.now.known (search rules)) (search rules)
