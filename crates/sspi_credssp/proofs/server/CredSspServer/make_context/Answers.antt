use Rattle.std.proofs.Common.{subst}
use Rattle.sspi_credssp.specs.Context.{either}
use Rattle.sspi_credssp.specs.ServerCause.{unbegun}
use Rattle.sspi_credssp.specs.ServerTurn.{server_setting}
use Rattle.sspi_credssp.proofs.Adopting.{adopted, unadopted}
use Rattle.sspi_credssp.proofs.server.CredSspServer.make_context.Goals as goal

pub returns-clause-begun : goal.returns-clause-begun
returns-clause-begun g c =
    let it = either g.N.Mechanism.REQUESTS g.N.Mechanism.meaning g.K.Mechanism.meaning in
    let p = g.C.CredentialsProxy.meaning in
    adopted it _ _ _ c.in_ok-context.context
    (subst (λ v. it.made (server_setting p v) c.in_ok-context.context) c.self.view_is
    (c.in_ok-context.ensures.made _ c.in_ok-known.ensures.listed))
    c.adopt.result _ _ _ _ c.requires c.adopt.ensures.acquired

pub returns-clause-cause : goal.returns-clause-cause
returns-clause-cause g c =
    let it = either g.N.Mechanism.REQUESTS g.N.Mechanism.meaning g.K.Mechanism.meaning in
    let p = g.C.CredentialsProxy.meaning in
    unadopted it _ _ _ c.in_ok-context.context
    (subst (λ v. it.made (server_setting p v) c.in_ok-context.context) c.self.view_is
    (c.in_ok-context.ensures.made _ c.in_ok-known.ensures.listed))
    _ c.adopt.result (λ kind cause. unbegun cause) c.adopt.ensures.cause
