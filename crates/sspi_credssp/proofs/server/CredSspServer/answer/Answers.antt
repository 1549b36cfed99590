use Rattle.std.proofs.Common.{◌≡◌, ◌≢◌, Some, None, Ok, Err, IfErr, true, ap, sym, subst, rules}
use Rattle.std.proofs.lemmas.Result.{err_from_is_err_and}
use Rattle.sspi_types.specs.declared.credential_use.CredentialUse.TheVariants.{Inbound}
use Rattle.sspi_types.specs.declared.error_kind.ErrorKind.TheVariants.{InsufficientMemory}
use Rattle.sspi_credssp.specs.declared.state.CredSspState.TheVariants.{NegoToken}
use Rattle.sspi_tsreq.specs.declared.request.TsRequest.{TsRequest}
use Rattle.sspi_mech.specs.Refusals.{error_of}
use Rattle.sspi_credssp.specs.Context.{Begun, IfContext, either}
use Rattle.sspi_credssp.specs.ServerCause.{NegoCause}
use Rattle.sspi_credssp.specs.ServerTurn.{RefusedAt, accepted, refused_step, server_args, server_setting}
use Rattle.sspi_credssp.specs.ServerStage.{IsReady}
use Rattle.sspi_credssp.proofs.ClientReady.{context_here}
use Rattle.sspi_credssp.proofs.ContextLaws.{lawful}
use Rattle.sspi_credssp.proofs.ServerReady.{ready_stepped}
use Rattle.sspi_credssp.proofs.server.CredSspServer.answer.Goals as goal

pub returns-clause-turn : goal.returns-clause-turn
returns-clause-turn g c = λ start d same ready nego output.
    let it = either g.N.Mechanism.REQUESTS g.N.Mechanism.meaning g.K.Mechanism.meaning in
    let laws = lawful _ _ g.N.Mechanism.meaning g.K.Mechanism.meaning g.met.N.Mechanism.laws g.met.K.Mechanism.laws in
    let here : c.self.inside.context ≡ Some c.in-Some.context = search rules in
    let nego_inside : c.self.inside.state ≡ NegoToken = search rules in
    let ready_inside = subst (λ v. IsReady it start d v) (sym c.self.view_is) ready in
    c.answer_step.ensures.turn start d (search rules)
    (ready_stepped it start _ d c.in-Some.context c.accept.new.context _ _ _ ready_inside nego_inside here
    (laws.accept_silent _ _ _ _ c.in_ok-step.ensures.step))
    (search rules)

pub returns-clause-step : goal.returns-clause-step
returns-clause-step g c = λ start d token at.
    let later = at.later in
    let it = either g.N.Mechanism.REQUESTS g.N.Mechanism.meaning g.K.Mechanism.meaning in
    let begun_inside = subst (λ v. IfContext v.context (Begun it start.context start.handle
    (server_setting g.C.CredentialsProxy.meaning start) Inbound None v.handle)) (sym c.self.view_is) at.begun in
    let here : c.self.inside.context ≡ Some c.in-Some.context = search rules in
    c.answer_step.ensures.step start d (search rules)
    (accepted c.in-Some.context _ _ (context_here _ _ _ here begun_inside)
    (subst (λ t. it.accepts c.in-Some.context (server_args c.self.inside.credentials_handle t) (Ok c.in_ok-step.step) c.accept.new.context)
    (sym token) c.in_ok-step.ensures.step))

pub returns-in_err-step-clause-turn : goal.returns-in_err-step-clause-turn
returns-in_err-step-clause-turn g c = λ start d same ready nego output.
    let it = either g.N.Mechanism.REQUESTS g.N.Mechanism.meaning g.K.Mechanism.meaning in
    let laws = lawful _ _ g.N.Mechanism.meaning g.K.Mechanism.meaning g.met.N.Mechanism.laws g.met.K.Mechanism.laws in
    let here : c.self.inside.context ≡ Some c.in-Some.context = search rules in
    let nego_inside : c.self.inside.state ≡ NegoToken = search rules in
    let ready_inside = subst (λ v. IsReady it start d v) (sym c.self.view_is) ready in
    let stepped = ready_stepped it start _ d c.in-Some.context c.accept.new.context (record c.self.inside.acts { negotiated = true })
    c.self.inside.output c.self.inside.credentials ready_inside nego_inside here
    (laws.accept_silent _ _ _ _ c.in_err-step.ensures.step) in
    let p = err_from_is_err_and c.from_residual.result c.from_residual.ensures.1 in
    rw (p.1, p.2) (search rules)

pub returns-in_err-step-clause-step : goal.returns-in_err-step-clause-step
returns-in_err-step-clause-step g c = λ start d token at.
    let later = at.later in
    let it = either g.N.Mechanism.REQUESTS g.N.Mechanism.meaning g.K.Mechanism.meaning in
    let tells = g.C.CredentialsProxy.meaning in
    let begun_inside = subst (λ v. IfContext v.context (Begun it start.context start.handle
    (server_setting g.C.CredentialsProxy.meaning start) Inbound None v.handle)) (sym c.self.view_is) at.begun in
    let here : c.self.inside.context ≡ Some c.in-Some.context = search rules in
    let none : c.self.inside.acts.status ≡ None = search rules in
    let p = err_from_is_err_and c.from_residual.result c.from_residual.ensures.1 in
    rw (p.1, p.2)
    (subst (λ s. RefusedAt it tells s start c.self.inside.credentials_handle d.nego_tokens
    (refused_step s c.self.inside.output (error_of c.in_err-step.field-0.0)) c.accept.new.context)
    (sym none)
    (accepted c.in-Some.context _ _ (context_here _ _ _ here begun_inside)
    (subst (λ t. it.accepts c.in-Some.context (server_args c.self.inside.credentials_handle t) (Err (error_of c.in_err-step.field-0.0))
    c.accept.new.context)
    (sym token) c.in_err-step.ensures.step)))

pub returns-clause-cause : goal.returns-clause-cause
returns-clause-cause g c = λ start d same at.
    let later = at.later in
    let it = either g.N.Mechanism.REQUESTS g.N.Mechanism.meaning g.K.Mechanism.meaning in
    let begun_inside = subst (λ v. IfContext v.context (Begun it start.context start.handle
    (server_setting g.C.CredentialsProxy.meaning start) Inbound None v.handle)) (sym c.self.view_is) at.begun in
    let here : c.self.inside.context ≡ Some c.in-Some.context = search rules in
    let token : d.nego_tokens ≡ c.args.request.now.nego_tokens = ap (λ (x : TsRequest). x.nego_tokens) (sym same) in
    let new = c.answer_step.new.self in
    subst (λ s. IfErr c.answer_step.result (λ error. error.error_type ≢ InsufficientMemory →
    NegoCause it g.C.CredentialsProxy.meaning s start d new error.error_type)) (sym c.answer_step.ensures.reached.status)
    (c.answer_step.ensures.cause start d (search rules) (search rules)
    (accepted c.in-Some.context _ _ (context_here _ _ _ here begun_inside)
    (subst (λ t. it.accepts c.in-Some.context (server_args c.self.inside.credentials_handle t) (Ok c.in_ok-step.step) c.accept.new.context)
    (sym token) c.in_ok-step.ensures.step)))
