use Rattle.std.proofs.Common.{◌≡◌, None, Err, IfErr, true, false, refl, sym, ap, ◌∙◌, subst, rules}
use Rattle.std.proofs.lemmas.Bool.{true≢false}
use Rattle.sspi_types.specs.declared.credential_use.CredentialUse.TheVariants.{Inbound}
use Rattle.sspi_credssp.specs.declared.state.CredSspState.TheVariants.{NegoToken}
use Rattle.sspi_mech.specs.Refusals.{error_of}
use Rattle.sspi_credssp.specs.Context.{Begun, OnContext, MadeOr, either}
use Rattle.sspi_credssp.specs.Noted.{VersionStops, is_old, OrMemory}
use Rattle.sspi_credssp.specs.Proxy.{lists_in, IsAsked, HasAsked}
use Rattle.sspi_credssp.specs.ServerCause.{MakeCause, ServerCause}
use Rattle.sspi_credssp.specs.ServerStage.{IsAtStep, BeginRefused}
use Rattle.sspi_credssp.specs.ServerTurn.{HasAcceptedTurn, server_setting}
use Rattle.sspi_credssp.proofs.Asked.{later, asked_on, turn_asked}
use Rattle.sspi_credssp.proofs.ServerBeginning.{begin_halted, context_there, no_step}
use Rattle.sspi_credssp.proofs.ServerHeeding.{server_only}
use Rattle.sspi_credssp.proofs.ServerCauses.{server_cause_past, server_cause_begun, server_exact_past, server_exact_begun}
use Rattle.sspi_credssp.proofs.server.CredSspServer.process.Goals as goal

pub returns-in-Ok : goal.returns-in-Ok
returns-in-Ok g c =
    let it = either g.N.Mechanism.REQUESTS g.N.Mechanism.meaning g.K.Mechanism.meaning in
    let p = g.C.CredentialsProxy.meaning in
    let now = c.args.self.now in
    let d = c.args.ts_request in
    let new = c.take-in-Ok.new.self in
    let ready = c.in-Ok.ensures.ready now d refl c.forget_last_call.ensures in
    let begun = context_there c.begin.new.self.context _ c.in-Ok.ensures.passed.0
    (subst (λ v. OnContext c.begin.new.self.context
    (Begun it v.context v.handle (server_setting p v) Inbound None c.begin.new.self.handle)) c.forget_last_call.ensures
    c.in-Ok.ensures.made.made) in
    let listed = subst (λ v. IsAsked p (lists_in v.context v.settings.mode) v.proxy c.begin.new.self.proxy) c.forget_last_call.ensures
    c.in-Ok.ensures.proxy.at_most in
    let at : IsAtStep it p now c.begin.new.self = record { later = later p _ _ _ listed; begun = begun } in
    let step : HasAcceptedTurn it p now d c.take-in-Ok.result new = c.take-in-Ok.ensures.step now d (search rules) at in
    let cause : IfErr c.take-in-Ok.result (λ refusal. ServerCause it p now d new refusal.error.error_type) =
    server_cause_past it p now new d _ _ (search rules) (search rules) c.take-in-Ok.ensures.begun.0 (search rules)
    (c.take-in-Ok.ensures.cause now d (search rules) at) in
    let young : is_old now.settings.least now.noted d.version ≡ false = search rules in
    record {
      turn = c.take-in-Ok.ensures.turn now d (search rules) ready (search rules);
      step = step;
      cause = record { kind = cause; codeless = c.take-in-Ok.ensures.codeless };
      exact = server_exact_past it now new d c.at_version.result c.begin.new.self.state _ c.take-in-Ok.result (search rules)
          (search rules) c.take-in-Ok.ensures.begun.0 (search rules) c.at_version.ensures c.take-in-Ok.ensures.exact;
      heeded = record {
        refuses = λ met. let old = met.old in absurd (cc (young, old));
        only = λ never. server_only it never p now d _ _ (λ some. c.take-in-Ok.ensures.begun.0) cause step;
      };
      kept = record {
        altered = search rules;
        made = λ idle none.
            let none_before : c.forget_last_call.new.self.context ≡ None = rw c.forget_last_call.ensures none in
            let nego : c.begin.new.self.state ≡ NegoToken =
            ap (λ v. v.state) c.in-Ok.ensures.frame ∙ c.in-Ok.ensures.made.fresh none_before in
            absurd (true≢false (sym (c.take-in-Ok.ensures.begun.1 nego) ∙ idle));
        unmade = search rules;
      };
      proxy = record {
        at_most = asked_on p _ _ _ _ _ listed c.take-in-Ok.ensures.proxy.at_most;
        exactly = turn_asked p now.proxy c.begin.new.self.proxy new.proxy _ _ c.take-in-Ok.result listed.told_same
            (subst (λ v. HasAsked p (lists_in v.context v.settings.mode) v.proxy c.begin.new.self.proxy) c.forget_last_call.ensures
            c.in-Ok.ensures.proxy.exactly)
            c.take-in-Ok.ensures.proxy.exactly;
      };
    }

pub returns-in-Err : goal.returns-in-Err
returns-in-Err g c =
    let it = either g.N.Mechanism.REQUESTS g.N.Mechanism.meaning g.K.Mechanism.meaning in
    let p = g.C.CredentialsProxy.meaning in
    let now = c.args.self.now in
    let d = c.args.ts_request in
    let new = c.begin.new.self in
    let kind = c.in-Err.error.error_type in
    let same : c.refusal.result.error ≡ error_of c.in-Err.error = search rules in
    let idle : new.acts.negotiated ≡ false = search rules in
    let step : HasAcceptedTurn it p now d (Err c.refusal.result) new = no_step it p _ _ idle in
    let cause : ServerCause it p now d new c.refusal.result.error.error_type =
    rw same
    (server_cause_begun it p now new d kind
    (subst (λ v. MadeOr v.context new.context (OrMemory kind (MakeCause it p v.settings.mode v.proxy new.proxy kind))
    (VersionStops v.settings.least v.noted d.version kind ⊥))
    c.forget_last_call.ensures c.in-Err.ensures.cause)) in
    record {
      turn = begin_halted it now new d (error_of c.in-Err.error) c.refusal.result _
          (subst (λ v. BeginRefused it v d.version new) c.forget_last_call.ensures c.in-Err.ensures.refused.0)
          (search rules) (search rules) c.refusal.ensures;
      step = step;
      cause = record { kind = cause; codeless = search rules };
      exact = rw same (server_exact_begun it now new d kind _
          (subst (λ v. MadeOr v.context new.context (OrMemory kind (MakeCause it p v.settings.mode v.proxy new.proxy kind))
          (VersionStops v.settings.least v.noted d.version kind ⊥))
          c.forget_last_call.ensures c.in-Err.ensures.cause));
      heeded = record {
        refuses = λ met.
            let old : is_old c.forget_last_call.new.self.settings.least c.forget_last_call.new.self.noted d.version ≡ true =
            rw c.forget_last_call.ensures met.old in
            (rw same (c.in-Err.ensures.looked.too_old met.begun old), search rules);
        only = λ never. server_only it never p now d (Err c.refusal.result) new
            (λ some. (c.in-Err.ensures.refused.0.handle (rw c.forget_last_call.ensures some)).1) cause step;
      };
      kept = record {
        altered = search rules;
        made = λ idle none.
            subst (λ v. OnContext new.context (Begun it v.context v.handle (server_setting p v) Inbound None new.handle))
            c.forget_last_call.ensures c.in-Err.ensures.made.made;
        unmade = search rules;
      };
      proxy = record { at_most = search rules; exactly = tt };
    }
