use Rattle.sspi_negotiate.proofs.negotiate.Negotiate.step.Goals as goal

pub returns-else-is_closed-clause-later : goal.returns-else-is_closed-clause-later
returns-else-is_closed-clause-later g c = λ late. (c.step_to.ensures.need late, c.step_to.ensures.held late)
