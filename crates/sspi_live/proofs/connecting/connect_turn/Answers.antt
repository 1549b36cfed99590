use Rattle.std.proofs.Common.{refl, sym}
use Rattle.std.proofs.KnownBytes.{Keeps-refl}
use Rattle.std.proofs.lemmas.Result.{err_from_is_err_and}
use Rattle.sspi_credssp.specs.declared.turn.End.TheVariants.{Client}
use Rattle.sspi_credssp.specs.Context.{either}
use Rattle.sspi_delegate.specs.declared.ends.Round.TheVariants as round
use Rattle.sspi_delegate.specs.Chain.{kdc_calls}
use Rattle.sspi_delegate.specs.Link.{newest_message}
use Rattle.sspi_delegate.specs.Log.{IsClientRefusal}
use Rattle.sspi_delegate.specs.Turns.{GoesOn}
use Rattle.sspi_delegate.proofs.Halves.{client_half_refused, client_half_stopped}
use Rattle.sspi_live.specs.Channel.{channel}
use Rattle.sspi_live.proofs.Calling.{client_calls, lost_past, write_is_no_refusal}
use Rattle.sspi_live.proofs.Carrying.{client_read, one_written, read_own}
use Rattle.sspi_live.proofs.Stepping.{all_going, connect_on, pushed_newest, pushed_whose, turned}
use Rattle.sspi_live.proofs.Stopping.{lost_stops, message_written, refusal_stops, write_stops}
use Rattle.sspi_live.proofs.connecting.connect_turn.Goals as goal

pub returns-in_ok-write_newest-in-Answered-clause-step : goal.returns-in_ok-write_newest-in-Answered-clause-step
returns-in_ok-write_newest-in-Answered-clause-step g c first limit so within =
    let old = c.args.transcript.now.turns in
    let new = c.client_round.new.transcript.turns in
    let d = c.in_ok-request.request in
    let a = channel g.S.Source.left g.S.Source.faults g.W.Sink.written g.W.Sink.faults c.args.source.now c.args.sink.now in
    let b = channel g.S.Source.left g.S.Source.faults g.W.Sink.written g.W.Sink.faults c.due_request.new.source c.args.sink.now in
    let e = channel g.S.Source.left g.S.Source.faults g.W.Sink.written g.W.Sink.faults c.due_request.new.source c.write_newest.new.sink in
    let read = client_read old a b d c.in_ok-request.ensures (Keeps-refl _) refl in
    connect_on d limit old new first b e c.is_last.result
    (turned Client d GoesOn old new first a b so read c.in-Answered.ensures.turn) c.in-Answered.ensures.turn (sym c.is_last.ensures)
    (one_written Client (newest_message new) b e _ c.in_ok-write_newest-in-Answered.ensures (Keeps-refl _) refl)

pub returns-in_err-write_newest-in-Answered-clause-step : goal.returns-in_err-write_newest-in-Answered-clause-step
returns-in_err-write_newest-in-Answered-clause-step g c first limit so within =
    let old = c.args.transcript.now.turns in
    let new = c.client_round.new.transcript.turns in
    let d = c.in_ok-request.request in
    let a = channel g.S.Source.left g.S.Source.faults g.W.Sink.written g.W.Sink.faults c.args.source.now c.args.sink.now in
    let b = channel g.S.Source.left g.S.Source.faults g.W.Sink.written g.W.Sink.faults c.due_request.new.source c.args.sink.now in
    let e = channel g.S.Source.left g.S.Source.faults g.W.Sink.written g.W.Sink.faults c.due_request.new.source c.write_newest.new.sink in
    let read = client_read old a b d c.in_ok-request.ensures (Keeps-refl _) refl in
    let turn = turned Client d GoesOn old new first a b so read c.in-Answered.ensures.turn in
    let error = c.in_err-write_newest-in-Answered.field-0.0 in
    let p = err_from_is_err_and c.from_residual-in_err-write_newest-in-Answered.result
    c.from_residual-in_err-write_newest-in-Answered.ensures.1 in
    rw (p.1, p.2)
    (write_stops Client limit error new first e (
      all_going Client d old new first b turn c.in-Answered.ensures.turn,
      message_written Client (newest_message new) new first b e error refl turn c.in_err-write_newest-in-Answered.ensures
          (Keeps-refl _) refl,
    ))

pub returns-in-Refused-clause-step : goal.returns-in-Refused-clause-step
returns-in-Refused-clause-step g c first limit so within =
    let old = c.args.transcript.now.turns in
    let new = c.client_round.new.transcript.turns in
    let d = c.in_ok-request.request in
    let error = c.in-Refused.error in
    let a = channel g.S.Source.left g.S.Source.faults g.W.Sink.written g.W.Sink.faults c.args.source.now c.args.sink.now in
    let b = channel g.S.Source.left g.S.Source.faults g.W.Sink.written g.W.Sink.faults c.due_request.new.source c.args.sink.now in
    let read = client_read old a b d c.in_ok-request.ensures (Keeps-refl _) refl in
    refusal_stops Client limit error c.refusal_of.result new first b c.refusal_of.ensures (
      pushed_newest Client d (IsClientRefusal error.error_type) old new c.in-Refused.ensures.turn,
      turned Client d (IsClientRefusal error.error_type) old new first a b so read c.in-Refused.ensures.turn,
    )

pub returns-in-Lost-clause-step : goal.returns-in-Lost-clause-step
returns-in-Lost-clause-step g c first limit so within =
    let old = c.args.transcript.now.turns in
    let d = c.in_ok-request.request in
    let a = channel g.S.Source.left g.S.Source.faults g.W.Sink.written g.W.Sink.faults c.args.source.now c.args.sink.now in
    let b = channel g.S.Source.left g.S.Source.faults g.W.Sink.written g.W.Sink.faults c.due_request.new.source c.args.sink.now in
    lost_stops Client limit d old c.client_round.new.transcript.turns first a b so within
    (client_read old a b d c.in_ok-request.ensures (Keeps-refl _) refl) (read_own old _ _ _ _ d c.in_ok-request.ensures)
    c.in-Lost.ensures.turn

pub returns-in_ok-write_newest-in-Answered-clause-history : goal.returns-in_ok-write_newest-in-Answered-clause-history
returns-in_ok-write_newest-in-Answered-clause-history g c first begun kdc_begun whose so history =
    let old = c.args.transcript.now.turns in
    let new = c.client_round.new.transcript.turns in
    client_calls (either g.N.Mechanism.REQUESTS g.N.Mechanism.meaning g.K.Mechanism.meaning)
    (kdc_calls g.D.Kdc.told g.D.Kdc.asked g.D.Kdc.faults) c.in_ok-request.request begun c.args.client.now c.client_round.new.client
    kdc_begun c.args.kdc.now c.client_round.new.kdc old new (round.Answered tt) whose
    (pushed_whose Client c.in_ok-request.request GoesOn old new c.in-Answered.ensures.turn whose) history
    (λ h. c.in-Answered.ensures.client_history begun kdc_begun h)

pub returns-in_err-write_newest-in-Answered-clause-history : goal.returns-in_err-write_newest-in-Answered-clause-history
returns-in_err-write_newest-in-Answered-clause-history g c first begun kdc_begun whose so history =
    let old = c.args.transcript.now.turns in
    let new = c.client_round.new.transcript.turns in
    let error = c.in_err-write_newest-in-Answered.field-0.0 in
    let p = err_from_is_err_and c.from_residual-in_err-write_newest-in-Answered.result
    c.from_residual-in_err-write_newest-in-Answered.ensures.1 in
    rw (p.1, p.2)
    (client_half_stopped (either g.N.Mechanism.REQUESTS g.N.Mechanism.meaning g.K.Mechanism.meaning)
    (kdc_calls g.D.Kdc.told g.D.Kdc.asked g.D.Kdc.faults) _ begun c.client_round.new.client kdc_begun c.client_round.new.kdc new error
    (write_is_no_refusal Client (newest_message new) _ _ _ _ error c.in_err-write_newest-in-Answered.ensures)
    (client_calls (either g.N.Mechanism.REQUESTS g.N.Mechanism.meaning g.K.Mechanism.meaning)
    (kdc_calls g.D.Kdc.told g.D.Kdc.asked g.D.Kdc.faults) c.in_ok-request.request begun c.args.client.now c.client_round.new.client
    kdc_begun c.args.kdc.now c.client_round.new.kdc old new (round.Answered tt) whose
    (pushed_whose Client c.in_ok-request.request GoesOn old new c.in-Answered.ensures.turn whose) history
    (λ h. c.in-Answered.ensures.client_history begun kdc_begun h)))

pub returns-in-Refused-clause-history : goal.returns-in-Refused-clause-history
returns-in-Refused-clause-history g c first begun kdc_begun whose so history =
    let old = c.args.transcript.now.turns in
    let new = c.client_round.new.transcript.turns in
    let error = c.in-Refused.error in
    client_half_refused (either g.N.Mechanism.REQUESTS g.N.Mechanism.meaning g.K.Mechanism.meaning)
    (kdc_calls g.D.Kdc.told g.D.Kdc.asked g.D.Kdc.faults) _ begun c.client_round.new.client kdc_begun c.client_round.new.kdc new error
    c.refusal_of.result c.refusal_of.ensures
    (client_calls (either g.N.Mechanism.REQUESTS g.N.Mechanism.meaning g.K.Mechanism.meaning)
    (kdc_calls g.D.Kdc.told g.D.Kdc.asked g.D.Kdc.faults) c.in_ok-request.request begun c.args.client.now c.client_round.new.client
    kdc_begun c.args.kdc.now c.client_round.new.kdc old new (round.Refused error) whose
    (pushed_whose Client c.in_ok-request.request (IsClientRefusal error.error_type) old new c.in-Refused.ensures.turn whose) history
    (λ h. c.in-Refused.ensures.client_history begun kdc_begun h))

pub returns-in-Lost-clause-history : goal.returns-in-Lost-clause-history
returns-in-Lost-clause-history g c first begun kdc_begun whose so history =
    let old = c.args.transcript.now.turns in
    let new = c.client_round.new.transcript.turns in
    let d = c.in_ok-request.request in
    let a = channel g.S.Source.left g.S.Source.faults g.W.Sink.written g.W.Sink.faults c.args.source.now c.args.sink.now in
    let b = channel g.S.Source.left g.S.Source.faults g.W.Sink.written g.W.Sink.faults c.due_request.new.source c.args.sink.now in
    lost_past (either g.N.Mechanism.REQUESTS g.N.Mechanism.meaning g.K.Mechanism.meaning)
    (kdc_calls g.D.Kdc.told g.D.Kdc.asked g.D.Kdc.faults) d begun c.args.client.now c.client_round.new.client kdc_begun
    c.args.kdc.now c.client_round.new.kdc old new first a b whose so
    (client_read old a b d c.in_ok-request.ensures (Keeps-refl _) refl) (read_own old _ _ _ _ d c.in_ok-request.ensures)
    c.in-Lost.ensures.turn history
    (λ h. c.in-Lost.ensures.client_history begun kdc_begun h)
