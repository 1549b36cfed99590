use Rattle.std.proofs.Common.{◌≡◌, Ok, ap, ◌∙◌, subst}
use Rattle.std.proofs.lemmas.Result.{err_from_is_err_and}
use Rattle.sspi_mech.specs.declared.step.Answer.TheVariants.{Done}
use Rattle.sspi_mech.specs.Answers.{answer_of}
use Rattle.sspi_mech.specs.Answered.{answered}
use Rattle.sspi_credssp.specs.ClientTurn.{StepsTo}
use Rattle.sspi_credssp.specs.Context.{either}
use Rattle.sspi_credssp.proofs.ContextLaws.{lawful}
use Rattle.sspi_credssp.proofs.Walks.{walked_on}
use Rattle.sspi_credssp.proofs.client.CredSspClient.go_on.Goals as goal

pub returns-in_ok-state-in-Ok-Done-clause-step : goal.returns-in_ok-state-in-Ok-Done-clause-step
returns-in_ok-state-in-Ok-Done-clause-step g c = λ start d tries log walked.
    let it = either g.N.Mechanism.REQUESTS g.N.Mechanism.meaning g.K.Mechanism.meaning in
    let laws = lawful _ _ g.N.Mechanism.meaning g.K.Mechanism.meaning g.met.N.Mechanism.laws g.met.K.Mechanism.laws in
    let done : answer_of (answered c.args.progress) ≡ Done c.in-Ok-Done.step =
    ap (λ r. answer_of (answered r)) (c.in-Ok-Done.is ∙ ap Ok c.in-Ok-Done.field-0-is) in
    let walked_done = subst (λ a. StepsTo it start d tries log a c.args.self.now) done walked in
    rw (c.reply.ensures.step.status, c.reply.ensures.step.output, c.reply.ensures.step.handle)
    (walked_on it laws start c.args.self.now.handle d.nego_tokens tries log _ _ _ c.reply.ensures.step.moved walked_done)

pub returns-in_err-state-in-Ok-Done-clause-step : goal.returns-in_err-state-in-Ok-Done-clause-step
returns-in_err-state-in-Ok-Done-clause-step g c = λ start d tries log walked.
    let it = either g.N.Mechanism.REQUESTS g.N.Mechanism.meaning g.K.Mechanism.meaning in
    let laws = lawful _ _ g.N.Mechanism.meaning g.K.Mechanism.meaning g.met.N.Mechanism.laws g.met.K.Mechanism.laws in
    let done : answer_of (answered c.args.progress) ≡ Done c.in-Ok-Done.step =
    ap (λ r. answer_of (answered r)) (c.in-Ok-Done.is ∙ ap Ok c.in-Ok-Done.field-0-is) in
    let walked_done = subst (λ a. StepsTo it start d tries log a c.args.self.now) done walked in
    let p = err_from_is_err_and c.from_residual.result c.from_residual.ensures.1 in
    rw (p.1, p.2, c.reply.ensures.step.on.negotiated, c.reply.ensures.step.status, c.reply.ensures.step.output, c.reply.ensures.step.handle)
    (walked_on it laws start c.args.self.now.handle d.nego_tokens tries log _ _ _ c.reply.ensures.step.moved walked_done)
