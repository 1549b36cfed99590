use Rattle.std.proofs.Common.{sym, ◌∙◌, ◌∷◌, subst, rules}
use Rattle.sspi_mech.specs.declared.step.Answer.TheVariants.{Ask}
use Rattle.sspi_credssp.specs.ClientTurn.{HasStepped, StepsTo, IsReady}
use Rattle.sspi_mech.specs.Answered.{answered}
use Rattle.sspi_credssp.specs.Context.{either}
use Rattle.sspi_credssp.proofs.CodelessErrors.{caused, on_err_answered}
use Rattle.sspi_credssp.proofs.ClientHeeding.{resumed_never}
use Rattle.sspi_credssp.proofs.ClientReady.{ready_forgot}
use Rattle.sspi_credssp.proofs.client.CredSspClient.resume.Goals as goal

pub returns-in-Some : goal.returns-in-Some
returns-in-Some g c =
    let it = either g.N.Mechanism.REQUESTS g.N.Mechanism.meaning g.K.Mechanism.meaning in
    let forgot = c.self.view_is ∙ c.forget_last_call.ensures in
    let caused = caused _ c.resume_with.result c.resume_with.ensures.cause in
    rw c.answered.ensures
    (record {
      turn = search rules;
      steps = λ start d tries log q awaits.
          let under = awaits.underway in
          let step : HasStepped it start d tries (record { question = q; reply = c.args.reply.now } ∷ log) (answered c.resume_with.result)
          c.resume_with.new.self =
          c.resume_with.ensures.step start d tries log q (subst (λ v. StepsTo it start d tries log (Ask q) v) (sym forgot) awaits.walked) in
          record {
            step = step;
            heeded = record {
              refuses = λ met. let old = met.old in let young = under.ready.young in absurd (cc (old, young));
              only = λ never is. absurd (resumed_never it never start d tries _ (answered c.resume_with.result) c.resume_with.new.self
                  caused.kind step is);
            };
          };
      stepped = search rules;
      falls = search rules;
      cause = record { kind = search rules; codeless = caused.codeless };
      kept = record {
        same = search rules;
        still = λ start d tries log q awaits.
            let under = awaits.underway in
            let ready = subst (λ v. IsReady it start d (record v { kept = c.take.new.self })) (sym forgot)
            (ready_forgot it start c.args.self.now d _ _ c.take.new.self under.ready) in
            on_err_answered _ c.resume_with.result (c.resume_with.ensures.still start d tries log q (search rules) ready
            (search rules) (search rules)
            (subst (λ v. StepsTo it start d tries log (Ask q) v) (sym forgot) awaits.walked));
        dropped = λ waited some. on_err_answered _ c.resume_with.result (search rules);
        idle = search rules;
        stray = search rules;
      };
    })
