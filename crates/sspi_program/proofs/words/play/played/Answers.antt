use Rattle.sspi_program.proofs.words.play.played.Goals as goal

pub returns-in-Ok-clause-play : goal.returns-in-Ok-clause-play
returns-in-Ok-clause-play c = c.hand_out.ensures.play c.in-Ok.ensures
