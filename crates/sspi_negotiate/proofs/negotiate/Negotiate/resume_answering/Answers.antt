use Rattle.std.proofs.Common.{rules}
use Rattle.sspi_negotiate.proofs.Follow.{resumed, asks_again, not_resumed}
use Rattle.sspi_negotiate.specs.Client.{resumes_answering}
use Rattle.sspi_negotiate.proofs.negotiate.Negotiate.resume_answering.Goals as goal

pub returns-in-Done-clause-step : goal.returns-in-Done-clause-step
unfolding resumes_answering
returns-in-Done-clause-step g c = resumed c.resume.new.self c.in-Done.step (search rules) (search rules)

pub returns-in-Ask-clause-step : goal.returns-in-Ask-clause-step
unfolding resumes_answering
returns-in-Ask-clause-step g c = asks_again c.in-Ask.request (search rules) (search rules)

pub returns-in-Refused-clause-step : goal.returns-in-Refused-clause-step
unfolding resumes_answering
returns-in-Refused-clause-step g c = not_resumed c.resume.new.self c.in-Refused.error (search rules) (search rules) (search rules)
