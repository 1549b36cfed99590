use Rattle.std.proofs.Common.{◌≡◌, ◌≢◌, IfErr, sym, subst, rules}
use Rattle.sspi_types.specs.declared.error_kind.ErrorKind.TheVariants.{InsufficientMemory}
use Rattle.sspi_credssp.specs.declared.state.CredSspState.{CredSspState}
use Rattle.sspi_credssp.specs.declared.state.CredSspState.TheVariants.{NegoToken}
use Rattle.sspi_credssp.specs.Context.{either}
use Rattle.sspi_credssp.specs.ServerCause.{StateCause}
use Rattle.sspi_credssp.proofs.server.CredSspServer.take.Goals as goal

pub returns-in-NegoToken-clause-cause : goal.returns-in-NegoToken-clause-cause
returns-in-NegoToken-clause-cause g c = λ start d same at.
    let it = either g.N.Mechanism.REQUESTS g.N.Mechanism.meaning g.K.Mechanism.meaning in
    let state : c.args.self.now.state ≡ NegoToken = search rules in
    subst (λ (s : CredSspState). IfErr c.negotiate.result (λ refusal. refusal.error.error_type ≢ InsufficientMemory →
    StateCause it g.C.CredentialsProxy.meaning s start d c.negotiate.new.self refusal.error.error_type)) (sym state)
    (c.negotiate.ensures.cause start d (search rules) at)
