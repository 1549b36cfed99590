use Rattle.std.proofs.Common.{rules}
use Rattle.sspi_negotiate.proofs.Follow.{stepped, asks, not_stepped}
use Rattle.sspi_negotiate.specs.Client.{answers}
use Rattle.sspi_negotiate.proofs.negotiate.Negotiate.answer.Goals as goal

pub returns-in-Done-clause-step : goal.returns-in-Done-clause-step
unfolding answers
returns-in-Done-clause-step g c = stepped c.answer_with.new.protocol c.in-Done.step (search rules) (search rules)

pub returns-in-Ask-clause-step : goal.returns-in-Ask-clause-step
unfolding answers
returns-in-Ask-clause-step g c = asks c.in-Ask.request (search rules) (search rules)

pub returns-in-Refused-clause-step : goal.returns-in-Refused-clause-step
unfolding answers
returns-in-Refused-clause-step g c = not_stepped c.answer_with.new.protocol c.in-Refused.error (search rules) (search rules) (search rules)
