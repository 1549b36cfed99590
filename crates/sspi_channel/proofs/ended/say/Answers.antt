use Rattle.sspi_channel.proofs.ended.say.Goals as goal

pub returns-in-Ok : goal.returns-in-Ok
returns-in-Ok g c = rw c.in-Ok.is (rw c.deref.ensures.value at c.write_line.ensures)
