use Rattle.std.proofs.Common.{◌≡◌, [], Some, Err, IfErr, false, subst, rules, refl}
use Rattle.std.proofs.lemmas.Result.{err_from_is_err_and}
use Rattle.sspi_types.specs.declared.credential_use.CredentialUse.TheVariants.{Outbound}
use Rattle.sspi_credssp.specs.Context.{Begun, BeginCause, IfContext, MadeOr, either, ForClient}
use Rattle.sspi_mech.specs.Refusals.{error_of}
use Rattle.sspi_mech.specs.Answered.{answered}
use Rattle.sspi_credssp.specs.ClientCause.{ClientCause, ClientExact, StateCause, StateExact}
use Rattle.sspi_credssp.specs.ClientTurn.{HasStepped}
use Rattle.sspi_credssp.specs.Acts.{is_waiting_in}
use Rattle.sspi_credssp.specs.Noted.{is_altered_in, is_old_in, VersionStopsIn, OrMemory}
use Rattle.sspi_credssp.specs.Refusal.{IsRefusedBy}
use Rattle.sspi_credssp.proofs.CodelessErrors.{caused, err_answered}
use Rattle.sspi_credssp.proofs.ClientHeeding.{client_only, no_step}
use Rattle.sspi_credssp.proofs.Causes.{client_cause_past, client_cause_begun, client_exact_past, client_exact_begun, too_old}
use Rattle.sspi_credssp.proofs.CheckedCode.{no_code, coded}
use Rattle.sspi_credssp.proofs.client.CredSspClient.process.Goals as goal

pub returns : goal.returns
returns g c =
    let it = either g.N.Mechanism.REQUESTS g.N.Mechanism.meaning g.K.Mechanism.meaning in
    let now = c.args.self.now in
    let d = c.args.ts_request in
    let new = c.take-2.new.self in
    let idle : is_waiting_in it now.context ≡ false = search rules in
    let uncoded = no_code d.error_code c.in_ok-check_error.field-0 c.in_ok-check_error.ensures in
    let young : is_old_in now.context now.settings.least now.noted d.version ≡ false = search rules in
    let same : is_altered_in now.context now.noted d.version ≡ false = search rules in
    let ready = c.in_ok-begin.ensures.ready now d refl c.forget_last_call.ensures idle uncoded in
    let begun = subst (λ v. IfContext c.begin.new.self.context
    (Begun it v.context v.handle (ForClient v.settings.mode) Outbound (Some v.settings.credentials) c.begin.new.self.handle))
    c.forget_last_call.ensures
    c.in_ok-begin.ensures.begun in
    let step : HasStepped it now d 0 [] (answered c.take-2.result) new =
    c.take-2.ensures.step now d (search rules) (search rules) begun in
    let caused : IsRefusedBy (answered c.take-2.result) (λ kind. StateCause it c.begin.new.self.state c.at_version.result new kind) =
    caused _ c.take-2.result c.take-2.ensures.cause in
    let cause : IfErr (answered c.take-2.result) (λ error. ClientCause it now d new error.error_type) =
    client_cause_past it now _ d _ _ _ _ idle uncoded young same c.take-2.ensures.begun
    (search rules) c.at_version.ensures caused.kind in
    let exact : IfErr (answered c.take-2.result) (λ error. ClientExact it now d new error.error_type) =
    client_exact_past it now _ d _ _ _ _ idle uncoded young same c.take-2.ensures.begun
    (search rules) c.at_version.ensures (err_answered (λ kind. StateExact it c.begin.new.self.state c.at_version.result new kind) c.take-2.result c.take-2.ensures.exact) in
    rw c.answered.ensures
    (record {
      turn = c.take-2.ensures.turn now d (search rules) ready (search rules);
      steps = record {
        step = step;
        heeded = record {
          refuses = λ met. let old = met.old in absurd (cc (young, old));
          only = λ never. client_only it never now d 0 [] _ _ cause step;
        };
      };
      cause = record { kind = cause; exact = exact; status = search rules };
      kept = record {
        waited = search rules;
        intruded = search rules;
        code = search rules;
        altered = search rules;
        unmade = search rules;
      };
    })

pub returns-in_err-check_error : goal.returns-in_err-check_error
returns-in_err-check_error g c =
    let it_is = coded _ c.args.ts_request.error_code c.in_err-check_error.field-0.0 c.in_err-check_error.ensures in
    let is_code = it_is.0 in
    let kind = it_is.1 in
    let status = it_is.2 in
    search rules

pub returns-in_err-begin : goal.returns-in_err-begin
returns-in_err-begin g c =
    let it = either g.N.Mechanism.REQUESTS g.N.Mechanism.meaning g.K.Mechanism.meaning in
    let now = c.args.self.now in
    let d = c.args.ts_request in
    let new = c.begin.new.self in
    let idle : is_waiting_in it now.context ≡ false = search rules in
    let uncoded = no_code d.error_code c.in_ok-check_error.field-0 c.in_ok-check_error.ensures in
    let kind = c.in_err-begin.field-0.0.error_type in
    let unstepped : new.acts.negotiated ≡ false = search rules in
    let step : HasStepped it now d 0 [] (Err (error_of c.in_err-begin.field-0.0)) new = no_step it _ _ unstepped in
    let cause : ClientCause it now d new kind =
    client_cause_begun it now _ d kind idle uncoded
    (subst (λ v. VersionStopsIn v.context v.settings.least v.noted d.version kind
    (MadeOr v.context new.context
    (OrMemory kind (BeginCause it (ForClient v.settings.mode) Outbound (Some v.settings.credentials) kind)) ⊥))
    c.forget_last_call.ensures c.in_err-begin.ensures.cause) in
    let exact : ClientExact it now d new kind =
    client_exact_begun it now _ d kind _ idle uncoded
    (subst (λ v. VersionStopsIn v.context v.settings.least v.noted d.version kind
    (MadeOr v.context new.context
    (OrMemory kind (BeginCause it (ForClient v.settings.mode) Outbound (Some v.settings.credentials) kind)) ⊥))
    c.forget_last_call.ensures c.in_err-begin.ensures.cause) in
    let p = err_from_is_err_and c.from_residual-in_err-begin.result c.from_residual-in_err-begin.ensures.1 in
    rw (p.1, p.2)
    (record {
      turn = search rules;
      steps = record {
        step = step;
        heeded = record {
          refuses = λ met.
              (too_old it now d kind new idle uncoded met.old cause, search rules);
          only = λ never. client_only it never now d 0 [] (Err (error_of c.in_err-begin.field-0.0)) new cause step;
        };
      };
      cause = record { kind = cause; exact = exact; status = search rules };
      kept = record {
        waited = search rules;
        intruded = search rules;
        code = search rules;
        altered = search rules;
        unmade = search rules;
      };
    })
