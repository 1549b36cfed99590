use Rattle.std.proofs.Common.{◌≡◌, Some, true, refl, sym, subst, rules}
use Rattle.sspi_mech.specs.declared.step.Answer.TheVariants.{Ask}
use Rattle.sspi_credssp.specs.ClientTurn.{StepsTo, resumed, IsReady}
use Rattle.sspi_credssp.specs.Context.{either}
use Rattle.sspi_credssp.proofs.ClientReady.{after_resume, falls_on, context_here}
use Rattle.sspi_credssp.proofs.StillWaits.{still_waits}
use Rattle.sspi_credssp.proofs.ContextLaws.{lawful}
use Rattle.sspi_credssp.proofs.client.CredSspClient.resume_with.Goals as goal

pub returns-clause-turn : goal.returns-clause-turn
returns-clause-turn g c = λ start d same ready nego output.
    let it = either g.N.Mechanism.REQUESTS g.N.Mechanism.meaning g.K.Mechanism.meaning in
    let laws = lawful _ _ g.N.Mechanism.meaning g.K.Mechanism.meaning g.met.N.Mechanism.laws g.met.K.Mechanism.laws in
    let after = after_resume it laws start _ d c.in-Some.context _ (record c.self.inside.acts { negotiated = true }) _ _
    (subst (λ v. IsReady it start d v) (sym c.self.view_is) ready) (search rules) (search rules) c.resume-progress.ensures in
    c.go_on.ensures.turn start d (search rules) after.0 (search rules) (search rules) after.1

pub returns-clause-step : goal.returns-clause-step
returns-clause-step g c = λ start d tries log q walked.
    let it = either g.N.Mechanism.REQUESTS g.N.Mechanism.meaning g.K.Mechanism.meaning in
    let walked_inside = subst (λ v. StepsTo it start d tries log (Ask q) v) (sym c.self.view_is) walked in
    let here : c.self.inside.context ≡ Some c.in-Some.context = search rules in
    c.go_on.ensures.step start d tries _ (resumed c.in-Some.context _ tries log q _ _
    (context_here _ _ _ here walked_inside) c.resume-progress.ensures)

pub returns-clause-still : goal.returns-clause-still
returns-clause-still g c = λ start d tries log q same ready nego output walked.
    let it = either g.N.Mechanism.REQUESTS g.N.Mechanism.meaning g.K.Mechanism.meaning in
    let laws = lawful _ _ g.N.Mechanism.meaning g.K.Mechanism.meaning g.met.N.Mechanism.laws g.met.K.Mechanism.laws in
    let ready_inside = subst (λ v. IsReady it start d v) (sym c.self.view_is) ready in
    let walked_inside = subst (λ v. StepsTo it start d tries log (Ask q) v) (sym c.self.view_is) walked in
    let here : c.self.inside.context ≡ Some c.in-Some.context = search rules in
    still_waits it laws start d tries log q _ _ c.go_on.new.self c.in-Some.context c.resume-progress.new.context _ c.args.request
    c.resume-progress.result c.go_on.result
    (search rules) (search rules) (search rules) here (search rules) refl ready_inside
    (context_here _ _ _ here walked_inside) c.resume-progress.ensures
    c.go_on.ensures.still

pub returns-clause-falls : goal.returns-clause-falls
returns-clause-falls g c =
    let laws = lawful _ _ g.N.Mechanism.meaning g.K.Mechanism.meaning g.met.N.Mechanism.laws g.met.K.Mechanism.laws in
    let it = either g.N.Mechanism.REQUESTS g.N.Mechanism.meaning g.K.Mechanism.meaning in
    let here : c.args.self.now.context ≡ Some c.in-Some.context = search rules in
    rw here (c.go_on.ensures.falls _ (falls_on it laws _ _ _ _ c.resume-progress.ensures))
