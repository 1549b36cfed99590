use Rattle.sspi_types.specs.declared.error_kind.ErrorKind.TheVariants.{DowngradeDetected}
use Rattle.sspi_mech.specs.Kerberos.{kerberos_meaning}
use Rattle.sspi_mech.specs.Ntlm.{ntlm_meaning}
use Rattle.sspi_completeness.proofs.KerberosRefusals.{kerberos_never}
use Rattle.sspi_completeness.proofs.NegotiationRefusals.{negotiate_never}
use Rattle.sspi_completeness.proofs.NeverRefusing.{ntlm_never, either_never}
use Rattle.sspi_completeness.proofs.laws.contexts_refuse_no_version.Goals as goal

pub returns-clause-ntlm : goal.returns-clause-ntlm
returns-clause-ntlm g c = ntlm_never

pub returns-clause-kerberos : goal.returns-clause-kerberos
returns-clause-kerberos g c = kerberos_never

pub returns-clause-plain : goal.returns-clause-plain
returns-clause-plain g c =
    either_never 0 ntlm_meaning kerberos_meaning DowngradeDetected ntlm_never kerberos_never
    (negotiate_never ntlm_meaning kerberos_meaning ntlm_never kerberos_never 0)

pub returns-clause-negotiation : goal.returns-clause-negotiation
returns-clause-negotiation g c = λ requests first second.
    negotiate_never g.N.Mechanism.meaning g.K.Mechanism.meaning first second requests

pub returns-clause-either : goal.returns-clause-either
returns-clause-either g c = λ requests first second.
    either_never requests g.N.Mechanism.meaning g.K.Mechanism.meaning DowngradeDetected first second
    (negotiate_never g.N.Mechanism.meaning g.K.Mechanism.meaning first second requests)
