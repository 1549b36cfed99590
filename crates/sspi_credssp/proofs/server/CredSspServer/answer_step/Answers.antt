use Rattle.std.proofs.Common.{◌≡◌, ◌∙◌, Some, true, ap, sym, rules}
use Rattle.sspi_mech.specs.Refusals.{error_of}
use Rattle.sspi_mech.specs.Answered.{answered}
use Rattle.sspi_credssp.specs.Context.{either}
use Rattle.sspi_credssp.specs.Proxy.{look_ups_at}
use Rattle.sspi_credssp.specs.Turn.{IsOver}
use Rattle.sspi_credssp.proofs.Asked.{asked_as, on_ok_asked_as}
use Rattle.sspi_credssp.proofs.ContextLaws.{lawful}
use Rattle.sspi_credssp.proofs.ServerAsking.{over_looks}
use Rattle.sspi_credssp.proofs.ServerCauses.{over_causes}
use Rattle.sspi_credssp.proofs.ServerWalks.{unknown_refused, known_over, turn_refused, turn_completed}
use Rattle.sspi_credssp.proofs.server.CredSspServer.answer_step.Goals as goal

pub returns-then-has_ended-clause-step : goal.returns-then-has_ended-clause-step
returns-then-has_ended-clause-step g c = λ start d told accepted.
    let it = either g.N.Mechanism.REQUESTS g.N.Mechanism.meaning g.K.Mechanism.meaning in
    let laws = lawful _ _ g.N.Mechanism.meaning g.K.Mechanism.meaning g.met.N.Mechanism.laws g.met.K.Mechanism.laws in
    let tells = g.C.CredentialsProxy.meaning in
    let status_is : c.complete.new.self.acts.status ≡ Some c.args.status = search rules in
    let over : IsOver (Some c.args.status) = c.has_ended.ensures.ended c.if-has_ended.true in
    turn_completed it laws tells start c.complete.new.self d c.args.status c.args.self.now.handle c.args.self.now.output
    (answered c.complete.result) c.complete.ensures.reached.negotiated status_is (known_over it laws tells c.args.status over)
    c.complete.ensures.kept.handle c.complete.ensures.kept.output (c.complete.ensures.step start d.nego_tokens _ told accepted)

pub returns-then-has_ended-clause-cause : goal.returns-then-has_ended-clause-cause
returns-then-has_ended-clause-cause g c = λ start d same proxy come.
    let over : IsOver (Some c.args.status) = c.has_ended.ensures.ended c.if-has_ended.true in
    over_causes (either g.N.Mechanism.REQUESTS g.N.Mechanism.meaning g.K.Mechanism.meaning) g.C.CredentialsProxy.meaning c.args.status
    start d c.complete.new.self c.complete.result over (c.complete.ensures.cause start d c.args.status same proxy come)

pub returns-clause-step : goal.returns-clause-step
returns-clause-step g c = λ start d told accepted.
    let it = either g.N.Mechanism.REQUESTS g.N.Mechanism.meaning g.K.Mechanism.meaning in
    let laws = lawful _ _ g.N.Mechanism.meaning g.K.Mechanism.meaning g.met.N.Mechanism.laws g.met.K.Mechanism.laws in
    let tells = g.C.CredentialsProxy.meaning in
    let negotiated : c.args.self.now.acts.negotiated ≡ true = search rules in
    let status_is : c.args.self.now.acts.status ≡ Some c.args.status = search rules in
    turn_refused it laws tells start c.args.self.now d c.args.status (error_of c.new.result) negotiated status_is
    (unknown_refused it laws tells c.args.status start c.args.self.now.handle d.nego_tokens _ _ accepted)

pub returns-then-has_ended-clause-proxy : goal.returns-then-has_ended-clause-proxy
returns-then-has_ended-clause-proxy g c =
    let over : IsOver (Some c.args.status) = c.has_ended.ensures.ended c.if-has_ended.true in
    let status_is : c.complete.new.self.acts.status ≡ Some c.args.status = search rules in
    let looks = over_looks c.args.status over ∙ ap look_ups_at (sym status_is) in
    record {
      at_most = asked_as g.C.CredentialsProxy.meaning 1 _ _ _ looks c.complete.ensures.proxy.at_most;
      exactly = on_ok_asked_as g.C.CredentialsProxy.meaning 1 _ _ _ c.complete.result looks c.complete.ensures.proxy.exactly;
    }
