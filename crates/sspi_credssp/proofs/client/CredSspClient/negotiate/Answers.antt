use Rattle.std.proofs.Common.{◌≡◌, Some, true, sym, subst, rules}
use Rattle.sspi_types.specs.declared.credential_use.CredentialUse.TheVariants.{Outbound}
use Rattle.sspi_credssp.specs.Context.{Begun, IfContext, either, ForClient}
use Rattle.sspi_credssp.specs.ClientTurn.{stepped, IsReady}
use Rattle.sspi_credssp.proofs.ClientReady.{after_step, context_here}
use Rattle.sspi_credssp.proofs.ContextLaws.{lawful}
use Rattle.sspi_credssp.proofs.client.CredSspClient.negotiate.Goals as goal

pub returns-clause-turn : goal.returns-clause-turn
returns-clause-turn g c = λ start d same ready nego output.
    let it = either g.N.Mechanism.REQUESTS g.N.Mechanism.meaning g.K.Mechanism.meaning in
    let laws = lawful _ _ g.N.Mechanism.meaning g.K.Mechanism.meaning g.met.N.Mechanism.laws g.met.K.Mechanism.laws in
    let after = after_step it laws start _ d c.in-Some.context _ (record c.self.inside.acts { negotiated = true }) _ _
    (subst (λ v. IsReady it start d v) (sym c.self.view_is) ready) (search rules) (search rules) c.initialize-progress.ensures.step in
    c.go_on.ensures.turn start d (search rules) after.0 (search rules) (search rules) after.1

pub returns-clause-step : goal.returns-clause-step
returns-clause-step g c = λ start d token target begun.
    let it = either g.N.Mechanism.REQUESTS g.N.Mechanism.meaning g.K.Mechanism.meaning in
    let begun_inside = subst (λ v. IfContext v.context
    (Begun it start.context start.handle (ForClient start.settings.mode) Outbound (Some start.settings.credentials) v.handle))
    (sym c.self.view_is) begun in
    let here : c.self.inside.context ≡ Some c.in-Some.context = search rules in
    let same_target : start.settings.target ≡ c.self.inside.service_principal_name = search rules in
    c.go_on.ensures.step start d _ _ (stepped c.in-Some.context _ _ (context_here _ _ _ here begun_inside)
    (rw (same_target, token) c.initialize-progress.ensures.step))
