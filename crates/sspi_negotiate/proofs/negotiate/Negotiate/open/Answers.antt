use Rattle.std.proofs.Common.{rules, refl}
use Rattle.sspi_negotiate.proofs.Beginning.{on_err, fell_past, fell_stepped}
use Rattle.sspi_mech.specs.Calls.{step_args}
use Rattle.sspi_negotiate.proofs.Follow.{stepped, asks, not_stepped_as}
use Rattle.sspi_negotiate.specs.Client.{first_step}
use Rattle.sspi_negotiate.specs.Hand.{hand}
use Rattle.sspi_negotiate.proofs.negotiate.Negotiate.open.Goals as goal

pub returns-in-Done-clause-step : goal.returns-in-Done-clause-step
unfolding first_step
returns-in-Done-clause-step g c = stepped c.step_with.new.protocol c.in-Done.step (search rules) (search rules)

pub returns-in-Ask-clause-step : goal.returns-in-Ask-clause-step
unfolding first_step
returns-in-Ask-clause-step g c = asks c.in-Ask.request (search rules) (search rules)

pub returns-in-Refused-clause-step : goal.returns-in-Refused-clause-step
unfolding first_step
returns-in-Refused-clause-step g c = not_stepped_as c.step_with.new.protocol c.in-Refused.error c.into.result.error_type
    (search rules) (search rules)
    c.fall.ensures.other (search rules)

pub returns-in-Refused-clause-held : goal.returns-in-Refused-clause-held
returns-in-Refused-clause-held g c = rw (← c.self.view_is) (on_err c.fall.result
    (fell_past (fell_stepped (hand g.N.Mechanism.meaning g.K.Mechanism.meaning) c.self.inside.protocol c.step_with.new.protocol
    (step_args c.args.args.now) c.self.inside.auth_identity c.in-Refused.error c.into.result.error_type
    (search rules) (search rules) (search rules)) (record { hand = c.in-Refused.ensures.named; packages = refl }))
    c.fall.ensures.held)
