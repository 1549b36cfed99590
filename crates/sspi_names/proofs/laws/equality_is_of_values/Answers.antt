use Rattle.sspi_names.proofs.SameValues.{identity_decided}
use Rattle.sspi_names.proofs.laws.equality_is_of_values.Goals as goal

pub returns-clause-identities : goal.returns-clause-identities
returns-clause-identities c = identity_decided
