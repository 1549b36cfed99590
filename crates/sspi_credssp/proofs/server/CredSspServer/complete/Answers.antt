use Rattle.std.proofs.Common.{◌≡◌, Some, Result, Ok, sym, subst, rules}
use Rattle.std.proofs.lemmas.Result.{err_from_is_err_and}
use Rattle.sspi_types.specs.declared.error.Error.{Error}
use Rattle.sspi_mech.specs.declared.step.Step.{Step}
use Rattle.sspi_mech.specs.Calls.{ToComplete}
use Rattle.sspi_mech.specs.Answered.{answered}
use Rattle.sspi_credssp.specs.declared.server_negotiation.Answer.{Answer}
use Rattle.sspi_mech.proofs.ContextLaws.{silent_by}
use Rattle.sspi_credssp.specs.declared.state.CredSspState.TheVariants.{NegoToken}
use Rattle.sspi_credssp.specs.Context.{either}
use Rattle.sspi_credssp.specs.ServerStage.{IsLater, CompletedStep, IsReady}
use Rattle.sspi_credssp.specs.ServerCause.{IdentifyCause, unknown, incomplete}
use Rattle.sspi_credssp.specs.ServerTurn.{AcceptedSoFar, Unknown, Identified, Completed, Accepted, HasCome, IsIdentified, identified}
use Rattle.sspi_credssp.specs.ServerTurn.{completed, so_far}
use Rattle.sspi_credssp.proofs.ClientReady.{context_here}
use Rattle.sspi_credssp.proofs.ContextLaws.{lawful}
use Rattle.sspi_credssp.proofs.ServerCauses.{known_causes, identified_since}
use Rattle.sspi_credssp.proofs.ServerReady.{ready_stepped}
use Rattle.sspi_credssp.proofs.ServerWalks.{accepted_on, completed_on, come_on}
use Rattle.sspi_credssp.proofs.server.CredSspServer.complete.Goals as goal

pub returns-in_err-identify-clause-step : goal.returns-in_err-identify-clause-step
returns-in_err-identify-clause-step g c = λ start token answer later accepted.
    let it = either g.N.Mechanism.REQUESTS g.N.Mechanism.meaning g.K.Mechanism.meaning in
    let here : c.args.self.now.context ≡ Some c.in-Some.context = search rules in
    let p = err_from_is_err_and c.from_residual.result c.from_residual.ensures.1 in
    let done : AcceptedSoFar it g.C.CredentialsProxy.meaning start c.args.self.now.handle token answer c.identify.new.context =
    so_far Unknown (subst (λ m. Accepted it g.C.CredentialsProxy.meaning start c.args.self.now.handle token Unknown answer m)
    (sym c.in_err-identify.ensures.err)
    (context_here _ _ _ here accepted)) in
    subst (λ r. CompletedStep it g.C.CredentialsProxy.meaning {T = Answer} start c.args.self.now.handle token answer (answered r)
    (Some c.identify.new.context)) (sym p.1) done

pub returns-in_err-identify-clause-cause : goal.returns-in_err-identify-clause-cause
returns-in_err-identify-clause-cause g c = λ start d status same later come.
    let it = either g.N.Mechanism.REQUESTS g.N.Mechanism.meaning g.K.Mechanism.meaning in
    let tells = g.C.CredentialsProxy.meaning in
    let kind = c.in_err-identify.field-0.0.error_type in
    let own : c.args.self.now.proxy ≡ c.self.inside.credentials = search rules in
    let here : c.self.inside.context ≡ Some c.in-Some.context = search rules in
    let come_inside = subst (λ v. HasCome it tells Unknown status start d v) (sym c.self.view_is) come in
    let p = err_from_is_err_and c.from_residual.result c.from_residual.ensures.1 in
    rw (p.1, p.2)
    (λ memory. unknown (search rules)
    (subst (λ m. Accepted it tells start c.self.inside.credentials_handle d.nego_tokens Unknown
    (Ok (record { status = status; output = c.self.inside.output })) m)
    (sym c.in_err-identify.ensures.err) (context_here _ _ _ here come_inside))
    (subst (λ m. IdentifyCause it m (tells.told start.proxy) (tells.faults start.proxy) (tells.faults c.identify.new.proxy) kind)
    (sym c.in_err-identify.ensures.err)
    (identified_since it tells c.in-Some.context start.proxy c.self.inside.credentials _ kind
    (subst (λ x. IsLater tells start.proxy x) own later)
    (c.in_err-identify.ensures.cause memory))))

pub returns-clause-step : goal.returns-clause-step
returns-clause-step g c = λ start token answer later accepted.
    let told_same = later.told_same in
    let it = either g.N.Mechanism.REQUESTS g.N.Mechanism.meaning g.K.Mechanism.meaning in
    let laws = lawful _ _ g.N.Mechanism.meaning g.K.Mechanism.meaning g.met.N.Mechanism.laws g.met.K.Mechanism.laws in
    let tells = g.C.CredentialsProxy.meaning in
    let here : c.args.self.now.context ≡ Some c.in-Some.context = search rules in
    let same : tells.told c.self.inside.credentials ≡ tells.told start.proxy = search rules in
    let known = subst (λ t. IsIdentified it t c.in-Some.context c.identify.new.context) same c.in_ok-identify.ensures.identified in
    let named = identified c.in-Some.context c.identify.new.context answer (context_here _ _ _ here accepted) known in
    let done = completed c.identify.new.context answer named c.in_ok-complete_auth_token.ensures.permitted in
    completed_on it laws tells start c.args.self.now.handle token answer (answered c.answer_peer.result)
    (Some c.complete_auth_token.new.self) _
    c.answer_peer.ensures.moved
    (subst (λ m. Accepted it tells start c.args.self.now.handle token Completed answer m) (sym c.complete_auth_token.ensures.same) done)

pub returns-in_err-complete_auth_token-clause-turn : goal.returns-in_err-complete_auth_token-clause-turn
returns-in_err-complete_auth_token-clause-turn g c = λ start d same ready nego over.
    let it = either g.N.Mechanism.REQUESTS g.N.Mechanism.meaning g.K.Mechanism.meaning in
    let here : c.self.inside.context ≡ Some c.in-Some.context = search rules in
    let nego_inside : c.self.inside.state ≡ NegoToken = search rules in
    let ready_inside = subst (λ v. IsReady it start d v) (sym c.self.view_is) ready in
    let named = ready_stepped it start _ d c.in-Some.context c.identify.new.context c.self.inside.acts
    c.self.inside.output c.identify.new.proxy ready_inside nego_inside here
    (silent_by _ _ c.identify.ensures.counts) in
    let p = err_from_is_err_and c.from_residual-in_err-complete_auth_token.result c.from_residual-in_err-complete_auth_token.ensures.1 in
    rw (p.1, p.2) (search rules)

pub returns-in_err-complete_auth_token-clause-step : goal.returns-in_err-complete_auth_token-clause-step
returns-in_err-complete_auth_token-clause-step g c = λ start token answer later accepted.
    let told_same = later.told_same in
    let it = either g.N.Mechanism.REQUESTS g.N.Mechanism.meaning g.K.Mechanism.meaning in
    let tells = g.C.CredentialsProxy.meaning in
    let here : c.args.self.now.context ≡ Some c.in-Some.context = search rules in
    let same : tells.told c.self.inside.credentials ≡ tells.told start.proxy = search rules in
    let known = subst (λ t. IsIdentified it t c.in-Some.context c.identify.new.context) same c.in_ok-identify.ensures.identified in
    let named = identified c.in-Some.context c.identify.new.context answer (context_here _ _ _ here accepted) known in
    let p = err_from_is_err_and c.from_residual-in_err-complete_auth_token.result c.from_residual-in_err-complete_auth_token.ensures.1 in
    let done : AcceptedSoFar it tells start c.args.self.now.handle token answer c.complete_auth_token.new.self =
    so_far Identified (subst (λ m. Accepted it tells start c.args.self.now.handle token Identified answer m)
    (sym c.complete_auth_token.ensures.same) named) in
    subst (λ r. CompletedStep it tells {T = Answer} start c.args.self.now.handle token answer (answered r)
    (Some c.complete_auth_token.new.self)) (sym p.1) done

pub returns-clause-cause : goal.returns-clause-cause
returns-clause-cause g c = λ start d status same later come.
    let told_same = later.told_same in
    let it = either g.N.Mechanism.REQUESTS g.N.Mechanism.meaning g.K.Mechanism.meaning in
    let laws = lawful _ _ g.N.Mechanism.meaning g.K.Mechanism.meaning g.met.N.Mechanism.laws g.met.K.Mechanism.laws in
    let tells = g.C.CredentialsProxy.meaning in
    let now = c.args.self.now in
    let here : now.context ≡ Some c.in-Some.context = search rules in
    let own : tells.told c.self.inside.credentials ≡ tells.told start.proxy = search rules in
    let answer : Result Step Error = Ok (record { status = status; output = now.output }) in
    let known = subst (λ t. IsIdentified it t c.in-Some.context c.identify.new.context) own c.in_ok-identify.ensures.identified in
    let named = identified c.in-Some.context c.identify.new.context answer (context_here _ _ _ here come) known in
    let done = completed c.identify.new.context answer named c.in_ok-complete_auth_token.ensures.permitted in
    known_causes it tells status start d c.args.request.now _ c.answer_peer.new.self c.answer_peer.result same
    (come_on it laws tells Completed status start now c.answer_peer.new.self d (search rules) (search rules)
    (accepted_on it laws tells start now.handle d.nego_tokens Completed answer
    (Some c.complete_auth_token.new.self) _ c.answer_peer.ensures.moved
    (subst (λ m. Accepted it tells start now.handle d.nego_tokens Completed answer m) (sym c.complete_auth_token.ensures.same) done)))
    c.answer_peer.ensures.cause

pub returns-in_err-complete_auth_token-clause-cause : goal.returns-in_err-complete_auth_token-clause-cause
returns-in_err-complete_auth_token-clause-cause g c = λ start d status same later come.
    let told_same = later.told_same in
    let it = either g.N.Mechanism.REQUESTS g.N.Mechanism.meaning g.K.Mechanism.meaning in
    let tells = g.C.CredentialsProxy.meaning in
    let here : c.self.inside.context ≡ Some c.in-Some.context = search rules in
    let own : tells.told c.self.inside.credentials ≡ tells.told start.proxy = search rules in
    let answer : Result Step Error = Ok (record { status = status; output = c.self.inside.output }) in
    let come_inside = subst (λ v. HasCome it tells Unknown status start d v) (sym c.self.view_is) come in
    let known = subst (λ t. IsIdentified it t c.in-Some.context c.identify.new.context) own c.in_ok-identify.ensures.identified in
    let named = identified c.in-Some.context c.identify.new.context answer (context_here _ _ _ here come_inside) known in
    let p = err_from_is_err_and c.from_residual-in_err-complete_auth_token.result c.from_residual-in_err-complete_auth_token.ensures.1 in
    rw (p.1, p.2)
    (λ memory. incomplete (search rules)
    (subst (λ m. Accepted it tells start c.self.inside.credentials_handle d.nego_tokens Identified answer m)
    (sym c.complete_auth_token.ensures.same) named)
    (subst (λ m. it.refuses m ToComplete c.in_err-complete_auth_token.field-0.0.error_type) (sym c.complete_auth_token.ensures.same)
    (c.in_err-complete_auth_token.ensures.cause.kind memory)))
