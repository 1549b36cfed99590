use Rattle.std.proofs.Common.{refl}
use Rattle.sspi_credssp.specs.Context.{either}
use Rattle.sspi_delegate.specs.Chain.{kdc_calls}
use Rattle.sspi_credssp.specs.declared.turn.Outcome.TheVariants as outcome
use Rattle.sspi_delegate.specs.Rounds.{suspended}
use Rattle.sspi_delegate.proofs.Histories.{client_made, client_stopped, client_alone, client_stopped_alone}
use Rattle.sspi_delegate.proofs.ends.client_round.Goals as goal

pub returns-in-Answered-ReplyNeeded-clause-client_history : goal.returns-in-Answered-ReplyNeeded-clause-client_history
returns-in-Answered-ReplyNeeded-clause-client_history g c first kdc_first history =
    client_made (either g.N.Mechanism.REQUESTS g.N.Mechanism.meaning g.K.Mechanism.meaning)
    (kdc_calls g.D.Kdc.told g.D.Kdc.asked g.D.Kdc.faults)
    first c.args.client.now c.finish_turn.new.client c.record_client.new.client kdc_first c.args.kdc.now c.finish_turn.new.kdc
    c.args.request (outcome.Reply c.in-Answered-ReplyNeeded.reply) c.args.transcript.now.turns c.record_client.new.transcript.turns history
    (rw c.in-Answered-ReplyNeeded.field-0-is at c.in-Answered-ReplyNeeded.ensures.turn) c.record_client.ensures.rest
    (rw (← c.in-Ok.ensures.turns, ← c.in-Ok-clone.ensures) c.record_client.ensures.turn)

pub returns-in-Answered-FinalMessage-clause-client_history : goal.returns-in-Answered-FinalMessage-clause-client_history
returns-in-Answered-FinalMessage-clause-client_history g c first kdc_first history =
    client_made (either g.N.Mechanism.REQUESTS g.N.Mechanism.meaning g.K.Mechanism.meaning)
    (kdc_calls g.D.Kdc.told g.D.Kdc.asked g.D.Kdc.faults)
    first c.args.client.now c.finish_turn.new.client c.record_client-in-Answered-FinalMessage.new.client
    kdc_first c.args.kdc.now c.finish_turn.new.kdc c.args.request
    (outcome.Final c.in-Answered-FinalMessage.reply) c.args.transcript.now.turns
    c.record_client-in-Answered-FinalMessage.new.transcript.turns history
    (rw c.in-Answered-FinalMessage.field-0-is at c.in-Answered-FinalMessage.ensures.turn)
    c.record_client-in-Answered-FinalMessage.ensures.rest
    (rw (← c.in-Ok.ensures.turns, ← c.in-Ok-clone.ensures) c.record_client-in-Answered-FinalMessage.ensures.turn)

pub returns-in-Refused-clause-client_history : goal.returns-in-Refused-clause-client_history
returns-in-Refused-clause-client_history g c first kdc_first history =
    client_stopped (either g.N.Mechanism.REQUESTS g.N.Mechanism.meaning g.K.Mechanism.meaning)
    (kdc_calls g.D.Kdc.told g.D.Kdc.asked g.D.Kdc.faults)
    first c.args.client.now c.finish_turn.new.client c.record_client-in-Refused.new.client
    kdc_first c.args.kdc.now c.finish_turn.new.kdc c.args.request c.in-Refused.refusal c.args.transcript.now.turns
    c.record_client-in-Refused.new.transcript.turns history c.in-Refused.ensures.turn c.record_client-in-Refused.ensures.rest
    (rw (← c.in-Ok.ensures.turns, ← c.in-Ok-clone.ensures) c.record_client-in-Refused.ensures.turn)

pub returns-in-Lost-clause-client_history : goal.returns-in-Lost-clause-client_history
returns-in-Lost-clause-client_history g c first kdc_first history =
    rw c.in-Ok.ensures.turns (suspended c.args.client.now c.args.kdc.now history c.in-Lost.ensures.turn)

pub returns-in-Answered-ReplyNeeded-clause-made : goal.returns-in-Answered-ReplyNeeded-clause-made
returns-in-Answered-ReplyNeeded-clause-made g c =
    client_alone (either g.N.Mechanism.REQUESTS g.N.Mechanism.meaning g.K.Mechanism.meaning)
    (kdc_calls g.D.Kdc.told g.D.Kdc.asked g.D.Kdc.faults)
    c.args.client.now c.finish_turn.new.client c.record_client.new.client c.args.kdc.now c.finish_turn.new.kdc
    c.args.request (outcome.Reply c.in-Answered-ReplyNeeded.reply) c.args.transcript.now.turns c.record_client.new.transcript.turns
    (rw c.in-Answered-ReplyNeeded.field-0-is at c.in-Answered-ReplyNeeded.ensures.turn) c.record_client.ensures.rest
    (rw (← c.in-Ok.ensures.turns, ← c.in-Ok-clone.ensures) c.record_client.ensures.turn)

pub returns-in-Answered-FinalMessage-clause-made : goal.returns-in-Answered-FinalMessage-clause-made
returns-in-Answered-FinalMessage-clause-made g c =
    client_alone (either g.N.Mechanism.REQUESTS g.N.Mechanism.meaning g.K.Mechanism.meaning)
    (kdc_calls g.D.Kdc.told g.D.Kdc.asked g.D.Kdc.faults)
    c.args.client.now c.finish_turn.new.client c.record_client-in-Answered-FinalMessage.new.client c.args.kdc.now c.finish_turn.new.kdc
    c.args.request (outcome.Final c.in-Answered-FinalMessage.reply) c.args.transcript.now.turns
    c.record_client-in-Answered-FinalMessage.new.transcript.turns
    (rw c.in-Answered-FinalMessage.field-0-is at c.in-Answered-FinalMessage.ensures.turn)
    c.record_client-in-Answered-FinalMessage.ensures.rest
    (rw (← c.in-Ok.ensures.turns, ← c.in-Ok-clone.ensures) c.record_client-in-Answered-FinalMessage.ensures.turn)

pub returns-in-Refused-clause-made : goal.returns-in-Refused-clause-made
returns-in-Refused-clause-made g c =
    client_stopped_alone (either g.N.Mechanism.REQUESTS g.N.Mechanism.meaning g.K.Mechanism.meaning)
    (kdc_calls g.D.Kdc.told g.D.Kdc.asked g.D.Kdc.faults)
    c.args.client.now c.finish_turn.new.client c.record_client-in-Refused.new.client
    c.args.kdc.now c.finish_turn.new.kdc c.args.request c.in-Refused.refusal c.args.transcript.now.turns
    c.record_client-in-Refused.new.transcript.turns c.in-Refused.ensures.turn c.record_client-in-Refused.ensures.rest
    (rw (← c.in-Ok.ensures.turns, ← c.in-Ok-clone.ensures) c.record_client-in-Refused.ensures.turn)

pub returns-in-Lost-clause-made : goal.returns-in-Lost-clause-made
returns-in-Lost-clause-made g c = suspended c.args.client.now c.args.kdc.now (refl, refl) c.in-Lost.ensures.turn
