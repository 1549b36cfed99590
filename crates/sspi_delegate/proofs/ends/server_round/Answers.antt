use Rattle.sspi_credssp.specs.Context.{either}
use Rattle.sspi_delegate.proofs.Recording.{refusal_pushed}
use Rattle.sspi_credssp.specs.declared.turn.Outcome.TheVariants as outcome
use Rattle.sspi_delegate.proofs.Histories.{server_made, server_gave, server_stopped}
use Rattle.sspi_delegate.proofs.Histories.{server_alone, server_gave_alone, server_stopped_alone}
use Rattle.sspi_delegate.proofs.ends.server_round.Goals as goal

pub returns-in-Err-clause-turn : goal.returns-in-Err-clause-turn
returns-in-Err-clause-turn g c =
    refusal_pushed (either g.N.Mechanism.REQUESTS g.N.Mechanism.meaning g.K.Mechanism.meaning) c.args.server.now c.process-answered.new.self
    c.args.request
    c.in-Err.field-0.error.error_type c.in-Err.field-0.ts_request c.args.transcript.now.turns c.record-in-Err.new.self.turns
    c.in-Err.ensures.turn
    (rw (← c.in-Ok.ensures.turns, ← c.in-Ok-clone.ensures, ← c.last_acts-acts.ensures, ← c.take_output-output.ensures.output)
    c.record-in-Err.ensures)

pub returns-in-Ok-ReplyNeeded-clause-server_history : goal.returns-in-Ok-ReplyNeeded-clause-server_history
returns-in-Ok-ReplyNeeded-clause-server_history g c first history =
    server_made (either g.N.Mechanism.REQUESTS g.N.Mechanism.meaning g.K.Mechanism.meaning) g.C.CredentialsProxy.meaning
    first c.args.server.now c.process-answered.new.self c.take_output-output.new.self c.args.request
    (outcome.Reply c.in-Ok-ReplyNeeded.reply)
    c.args.transcript.now.turns c.record.new.self.turns history
    (rw c.in-Ok-ReplyNeeded.field-0-is at c.in-Ok-ReplyNeeded.ensures)
    c.take_output-output.ensures.rest
    (rw (← c.in-Ok.ensures.turns, ← c.in-Ok-clone.ensures, ← c.last_acts-acts.ensures, ← c.take_output-output.ensures.output)
    c.record.ensures)

pub returns-in-Ok-Finished-clause-server_history : goal.returns-in-Ok-Finished-clause-server_history
returns-in-Ok-Finished-clause-server_history g c first history =
    server_gave (either g.N.Mechanism.REQUESTS g.N.Mechanism.meaning g.K.Mechanism.meaning) g.C.CredentialsProxy.meaning
    first c.args.server.now c.process-answered.new.self c.take_output-output.new.self c.args.request c.in-Ok-Finished.identity
    c.args.transcript.now.turns c.record-in-Ok-Finished.new.self.turns history
    (rw c.in-Ok-Finished.field-0-is at c.in-Ok-Finished.ensures)
    c.take_output-output.ensures.rest
    (rw (← c.in-Ok.ensures.turns, ← c.in-Ok-clone.ensures, ← c.last_acts-acts.ensures, ← c.take_output-output.ensures.output)
    c.record-in-Ok-Finished.ensures)

pub returns-in-Err-clause-server_history : goal.returns-in-Err-clause-server_history
returns-in-Err-clause-server_history g c first history =
    server_stopped (either g.N.Mechanism.REQUESTS g.N.Mechanism.meaning g.K.Mechanism.meaning) g.C.CredentialsProxy.meaning
    first c.args.server.now c.process-answered.new.self c.take_output-output.new.self c.args.request
    c.in-Err.field-0 c.args.transcript.now.turns c.record-in-Err.new.self.turns history c.in-Err.ensures
    c.take_output-output.ensures.rest
    (rw (← c.in-Ok.ensures.turns, ← c.in-Ok-clone.ensures, ← c.last_acts-acts.ensures, ← c.take_output-output.ensures.output)
    c.record-in-Err.ensures)

pub returns-in-Ok-ReplyNeeded-clause-made : goal.returns-in-Ok-ReplyNeeded-clause-made
returns-in-Ok-ReplyNeeded-clause-made g c =
    server_alone (either g.N.Mechanism.REQUESTS g.N.Mechanism.meaning g.K.Mechanism.meaning) g.C.CredentialsProxy.meaning
    c.args.server.now c.process-answered.new.self c.take_output-output.new.self c.args.request (outcome.Reply c.in-Ok-ReplyNeeded.reply)
    c.args.transcript.now.turns c.record.new.self.turns
    (rw c.in-Ok-ReplyNeeded.field-0-is at c.in-Ok-ReplyNeeded.ensures)
    c.take_output-output.ensures.rest
    (rw (← c.in-Ok.ensures.turns, ← c.in-Ok-clone.ensures, ← c.last_acts-acts.ensures, ← c.take_output-output.ensures.output)
    c.record.ensures)

pub returns-in-Ok-Finished-clause-made : goal.returns-in-Ok-Finished-clause-made
returns-in-Ok-Finished-clause-made g c =
    server_gave_alone (either g.N.Mechanism.REQUESTS g.N.Mechanism.meaning g.K.Mechanism.meaning) g.C.CredentialsProxy.meaning
    c.args.server.now c.process-answered.new.self c.take_output-output.new.self c.args.request c.in-Ok-Finished.identity
    c.args.transcript.now.turns c.record-in-Ok-Finished.new.self.turns
    (rw c.in-Ok-Finished.field-0-is at c.in-Ok-Finished.ensures)
    c.take_output-output.ensures.rest
    (rw (← c.in-Ok.ensures.turns, ← c.in-Ok-clone.ensures, ← c.last_acts-acts.ensures, ← c.take_output-output.ensures.output)
    c.record-in-Ok-Finished.ensures)

pub returns-in-Err-clause-made : goal.returns-in-Err-clause-made
returns-in-Err-clause-made g c =
    server_stopped_alone (either g.N.Mechanism.REQUESTS g.N.Mechanism.meaning g.K.Mechanism.meaning) g.C.CredentialsProxy.meaning
    c.args.server.now c.process-answered.new.self c.take_output-output.new.self c.args.request
    c.in-Err.field-0 c.args.transcript.now.turns c.record-in-Err.new.self.turns c.in-Err.ensures
    c.take_output-output.ensures.rest
    (rw (← c.in-Ok.ensures.turns, ← c.in-Ok-clone.ensures, ← c.last_acts-acts.ensures, ← c.take_output-output.ensures.output)
    c.record-in-Err.ensures)
