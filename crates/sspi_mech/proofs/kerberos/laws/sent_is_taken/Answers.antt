use Rattle.std.specs.Prelude.{false, true, Result}
use Rattle.std.proofs.Common.{ap}
use Rattle.sspi_types.specs.declared.error_kind.ErrorKind.{ErrorKind}
use Rattle.sspi_mech.specs.declared.kerberos.arrival.Arrival.{Arrival}
use Rattle.sspi_mech.specs.KerberosSteps.{admits}
use Rattle.sspi_mech.proofs.KerberosMessages.{arrives}
use Rattle.sspi_mech.proofs.kerberos.laws.sent_is_taken.Goals as goal

pub returns-clause-first : goal.returns-clause-first
returns-clause-first c = λ m name key is short long.
    ap (λ (a : Result Arrival ErrorKind). admits m false a) (arrives name key is short long)

pub returns-clause-paired : goal.returns-clause-paired
returns-clause-paired c = λ m name key is short long.
    ap (λ (a : Result Arrival ErrorKind). admits m true a) (arrives name key is short long)
