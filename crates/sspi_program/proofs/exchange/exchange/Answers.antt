use Rattle.sspi_program.proofs.exchange.exchange.Goals as goal

pub returns-in-Ok-clause-exchange : goal.returns-in-Ok-clause-exchange
returns-in-Ok-clause-exchange c held = c.meet.ensures.exchange c.in-Ok.ensures.ends c.in-Ok.ensures.link held
