use Rattle.std.proofs.Common.{rules, refl}
use Rattle.sspi_negotiate.proofs.Beginning.{on_err, fell_past, fell_resumed}
use Rattle.sspi_negotiate.proofs.Follow.{resumed, asks_again, not_resumed_as}
use Rattle.sspi_negotiate.specs.Client.{resumes_opening}
use Rattle.sspi_negotiate.specs.Hand.{hand}
use Rattle.sspi_negotiate.proofs.negotiate.Negotiate.resume_opening.Goals as goal

pub returns-in-Done-clause-step : goal.returns-in-Done-clause-step
unfolding resumes_opening
returns-in-Done-clause-step g c = resumed c.resume.new.self c.in-Done.step (search rules) (search rules)

pub returns-in-Ask-clause-step : goal.returns-in-Ask-clause-step
unfolding resumes_opening
returns-in-Ask-clause-step g c = asks_again c.in-Ask.request (search rules) (search rules)

pub returns-in-Refused-clause-step : goal.returns-in-Refused-clause-step
unfolding resumes_opening
returns-in-Refused-clause-step g c = not_resumed_as c.resume.new.self c.in-Refused.error c.into.result.error_type (search rules)
    (search rules)
    c.fall_waiting.ensures.other (search rules)

pub returns-in-Refused-clause-held : goal.returns-in-Refused-clause-held
returns-in-Refused-clause-held g c = rw (← c.self.view_is) (on_err c.fall_waiting.result
    (fell_past (fell_resumed (hand g.N.Mechanism.meaning g.K.Mechanism.meaning) c.self.inside.protocol c.resume.new.self
    c.args.reply.now c.in-Refused.error c.into.result.error_type (search rules) (search rules) (search rules))
    (record { hand = c.in-Refused.ensures.named; packages = refl }))
    c.fall_waiting.ensures.held)
