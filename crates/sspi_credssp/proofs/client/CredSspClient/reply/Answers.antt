use Rattle.std.proofs.Common.{◌≡◌, ◌≢◌, Some, IfErr, sym, subst}
use Rattle.sspi_types.specs.declared.error_kind.ErrorKind.TheVariants.{InsufficientMemory}
use Rattle.sspi_types.specs.declared.security_status.SecurityStatus.TheVariants as statuses
use Rattle.sspi_credssp.specs.ClientCause.{NegoCause}
use Rattle.sspi_credssp.specs.Context.{either}
use Rattle.sspi_credssp.proofs.client.CredSspClient.reply.Goals as goal

pub returns-then-eq-clause-cause : goal.returns-then-eq-clause-cause
returns-then-eq-clause-cause g c =
    let ended : c.prove.new.self.acts.status ≡ Some statuses.Ok = c.prove.ensures.step.status in
    subst (λ s. IfErr c.prove.result (λ e. e.error_type ≢ InsufficientMemory →
    NegoCause (either g.N.Mechanism.REQUESTS g.N.Mechanism.meaning g.K.Mechanism.meaning) s c.prove.new.self e.error_type))
    (sym ended) c.prove.ensures.cause
