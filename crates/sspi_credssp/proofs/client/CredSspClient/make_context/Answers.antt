use Rattle.std.proofs.Common.{subst}
use Rattle.std.specs.Prelude.{◌≢◌, Some, OnOk, IfErr}
use Rattle.sspi_types.specs.declared.credential_use.CredentialUse.TheVariants.{Outbound}
use Rattle.sspi_types.specs.declared.error_kind.ErrorKind.TheVariants.{InsufficientMemory}
use Rattle.sspi_mech.specs.Calls.{ToAcquire}
use Rattle.sspi_credssp.specs.Context.{IfContext, either, ForClient}
use Rattle.sspi_credssp.proofs.Adopting.{adopted, unadopted}
use Rattle.sspi_credssp.proofs.client.CredSspClient.make_context.Goals as goal

pub returns-clause-begun : goal.returns-clause-begun
returns-clause-begun g c =
    let it = either g.N.Mechanism.REQUESTS g.N.Mechanism.meaning g.K.Mechanism.meaning in
    adopted it _ _ _ c.in_ok-context.context (subst (λ v. it.made (ForClient v.settings.mode) c.in_ok-context.context)
    c.self.view_is c.in_ok-context.ensures.made)
    c.adopt.result _ _ _ _ c.requires
    (subst (λ v. OnOk c.adopt.result
    (IfContext c.adopt.new.place (it.acquires c.in_ok-context.context Outbound (Some v.settings.credentials)
    c.adopt.new.handle))) c.self.view_is c.adopt.ensures.acquired)

pub returns-clause-cause : goal.returns-clause-cause
returns-clause-cause g c =
    let it = either g.N.Mechanism.REQUESTS g.N.Mechanism.meaning g.K.Mechanism.meaning in
    unadopted it _ _ _ c.in_ok-context.context (subst (λ v. it.made (ForClient v.settings.mode) c.in_ok-context.context)
    c.self.view_is c.in_ok-context.ensures.made)
    _ c.adopt.result (λ kind cause. cause)
    (subst (λ v. IfErr c.adopt.result (λ error. error.error_type ≢ InsufficientMemory →
    it.refuses c.in_ok-context.context (ToAcquire Outbound (Some v.settings.credentials))
    error.error_type)) c.self.view_is c.adopt.ensures.cause)
