use Rattle.std.proofs.Common.{◌≡◌, ◌≢◌, IfErr, OnOk, sym, ◌∙◌, ap, subst, rules}
use Rattle.sspi_types.specs.declared.error.Error.{Error}
use Rattle.sspi_types.specs.declared.error_kind.ErrorKind.TheVariants.{InsufficientMemory}
use Rattle.sspi_mech.specs.Refusals.{error_of}
use Rattle.sspi_credssp.specs.Context.{either}
use Rattle.sspi_credssp.specs.Proxy.{HasAsked, look_ups_at}
use Rattle.sspi_credssp.specs.ServerCause.{NegoCause}
use Rattle.sspi_credssp.specs.ServerTurn.{HasAcceptedTurn}
use Rattle.sspi_credssp.proofs.ContextLaws.{lawful}
use Rattle.sspi_credssp.proofs.ServerRefusals.{halted_as, went_on}
use Rattle.sspi_credssp.proofs.ServerWalks.{refused_as}
use Rattle.sspi_credssp.proofs.server.CredSspServer.negotiate.Goals as goal
use Rattle.sspi_credssp.proofs.server.CredSspServer.negotiate.Goals.{in-Ok, in-Err}

pub returns-clause-turn : goal.returns-clause-turn
returns-clause-turn g c = λ start d same ready nego output.
    let it = either g.N.Mechanism.REQUESTS g.N.Mechanism.meaning g.K.Mechanism.meaning in
    let own = sym c.answer.ensures.kept.0 in
    elim c.match-answer.branch [
      | in-Ok w ↦ went_on it start c.answer.new.self d c.args.request _ w.in-Ok.answer w.with_answer.result c.match-answer.result
          w.result-is same own
          w.with_answer.ensures (w.in-Ok.ensures.turn start d same ready nego output)
      | in-Err w ↦
          let kept = w.in-Err.ensures.kept.1 in
          halted_as it start c.answer.new.self d c.args.request c.self.inside.state _ (error_of w.in-Err.error) w.refusal.result
          c.match-answer.result w.result-is
          same own (search rules) w.refusal.ensures (w.in-Err.ensures.turn start d same ready nego output)
    ]

pub returns-clause-step : goal.returns-clause-step
returns-clause-step g c = λ start d token at.
    let it = either g.N.Mechanism.REQUESTS g.N.Mechanism.meaning g.K.Mechanism.meaning in
    let laws = lawful _ _ g.N.Mechanism.meaning g.K.Mechanism.meaning g.met.N.Mechanism.laws g.met.K.Mechanism.laws in
    let tells = g.C.CredentialsProxy.meaning in
    elim c.match-answer.branch [
      | in-Ok w ↦ subst (λ r. HasAcceptedTurn it tells start d r c.answer.new.self) (sym w.result-is)
          (w.in-Ok.ensures.step start d token at)
      | in-Err w ↦ subst (λ r. HasAcceptedTurn it tells start d r c.answer.new.self) (sym w.result-is)
          (refused_as it laws tells start c.answer.new.self d (error_of w.in-Err.error) w.refusal.result.error (search rules)
          (w.in-Err.ensures.step start d token at))
    ]

pub returns-clause-cause : goal.returns-clause-cause
returns-clause-cause g c = λ start d same at.
    let it = either g.N.Mechanism.REQUESTS g.N.Mechanism.meaning g.K.Mechanism.meaning in
    let tells = g.C.CredentialsProxy.meaning in
    let new = c.answer.new.self in
    elim c.match-answer.branch [
      | in-Ok w ↦ subst (λ r. IfErr r (λ refusal. refusal.error.error_type ≢ InsufficientMemory →
          NegoCause it tells new.acts.status start d new refusal.error.error_type)) (sym w.result-is) tt
      | in-Err w ↦ subst (λ r. IfErr r (λ refusal. refusal.error.error_type ≢ InsufficientMemory →
          NegoCause it tells new.acts.status start d new refusal.error.error_type)) (sym w.result-is)
          (λ memory. let e : w.refusal.result.error ≡ error_of w.in-Err.error = search rules in
          subst (λ (x : Error). NegoCause it tells new.acts.status start d new x.error_type) (sym e)
          (w.in-Err.ensures.cause start d same at (λ lacking. memory (ap (λ (x : Error). x.error_type) e ∙ lacking))))
    ]

pub returns-clause-proxy : goal.returns-clause-proxy
returns-clause-proxy g c =
    let p = g.C.CredentialsProxy.meaning in
    let n = look_ups_at c.answer.new.self.acts.status in
    let before = c.args.self.now.proxy in
    let now = c.answer.new.self.proxy in
    record {
      at_most = c.answer.ensures.proxy.at_most;
      exactly = elim c.match-answer.branch [
        | in-Ok w ↦ subst (λ r. OnOk r (HasAsked p n before now)) (sym w.result-is) w.in-Ok.ensures.proxy.exactly
        | in-Err w ↦ subst (λ r. OnOk r (HasAsked p n before now)) (sym w.result-is) tt
      ];
    }
