use Rattle.std.proofs.Common.{None, Some, arith, refl}
use Rattle.std.proofs.KnownBytes.{Keeps-refl}
use Rattle.std.proofs.lemmas.Result.{err_from_is_err_and}
use Rattle.sspi_credssp.specs.declared.turn.End.TheVariants.{Server}
use Rattle.sspi_credssp.specs.Context.{either}
use Rattle.sspi_delegate.specs.declared.ends.Round.TheVariants as round
use Rattle.sspi_delegate.specs.Link.{newest_message}
use Rattle.sspi_delegate.specs.Log.{IsFinished, IsServerRefusal}
use Rattle.sspi_delegate.specs.Turns.{GoesOn}
use Rattle.sspi_delegate.proofs.Halves.{server_half_stopped}
use Rattle.sspi_live.specs.Channel.{channel}
use Rattle.sspi_live.proofs.Calling.{server_calls, told_past, write_is_no_refusal}
use Rattle.sspi_live.proofs.Carrying.{one_written, server_read}
use Rattle.sspi_live.proofs.Stepping.{all_going, pushed_count, pushed_newest, pushed_whose, so_far_on, turned}
use Rattle.sspi_live.proofs.Stopping.{lost_stops, message_written, server_refuses, told_stops, write_stops}
use Rattle.sspi_live.proofs.serving.serve_turn.Goals as goal

pub returns-in_ok-write_newest-in-Answered-None-clause-step : goal.returns-in_ok-write_newest-in-Answered-None-clause-step
returns-in_ok-write_newest-in-Answered-None-clause-step g c first limit so within =
    let old = c.args.transcript.now.turns in
    let new = c.server_round.new.transcript.turns in
    let d = c.in_ok-request.request in
    let a = channel g.S.Source.left g.S.Source.faults g.W.Sink.written g.W.Sink.faults c.args.source.now c.args.sink.now in
    let b = channel g.S.Source.left g.S.Source.faults g.W.Sink.written g.W.Sink.faults c.read_request.new.source c.args.sink.now in
    let e = channel g.S.Source.left g.S.Source.faults g.W.Sink.written g.W.Sink.faults c.read_request.new.source c.write_newest.new.sink in
    let read = server_read old a b d c.in_ok-request.ensures (Keeps-refl _) refl in
    let pushed = rw c.in-Answered-None.field-0-is at c.in-Answered-None.ensures.turn in
    so_far_on Server d old new first b e (turned Server d GoesOn old new first a b so read pushed) pushed (λ is. absurd (cc (is)))
    (one_written Server (newest_message new) b e _ c.in_ok-write_newest-in-Answered-None.ensures (Keeps-refl _) refl)

pub returns-in_err-write_newest-in-Answered-None-clause-step : goal.returns-in_err-write_newest-in-Answered-None-clause-step
returns-in_err-write_newest-in-Answered-None-clause-step g c first limit so within =
    let old = c.args.transcript.now.turns in
    let new = c.server_round.new.transcript.turns in
    let d = c.in_ok-request.request in
    let a = channel g.S.Source.left g.S.Source.faults g.W.Sink.written g.W.Sink.faults c.args.source.now c.args.sink.now in
    let b = channel g.S.Source.left g.S.Source.faults g.W.Sink.written g.W.Sink.faults c.read_request.new.source c.args.sink.now in
    let e = channel g.S.Source.left g.S.Source.faults g.W.Sink.written g.W.Sink.faults c.read_request.new.source c.write_newest.new.sink in
    let read = server_read old a b d c.in_ok-request.ensures (Keeps-refl _) refl in
    let pushed = rw c.in-Answered-None.field-0-is at c.in-Answered-None.ensures.turn in
    let turn = turned Server d GoesOn old new first a b so read pushed in
    let error = c.in_err-write_newest-in-Answered-None.field-0.0 in
    let p = err_from_is_err_and c.from_residual-in_err-write_newest-in-Answered-None.result
    c.from_residual-in_err-write_newest-in-Answered-None.ensures.1 in
    rw (p.1, p.2)
    (write_stops Server limit error new first e (
      all_going Server d old new first b turn pushed,
      message_written Server (newest_message new) new first b e error refl turn c.in_err-write_newest-in-Answered-None.ensures
          (Keeps-refl _) refl,
    ))

pub returns-in-Answered-Some-clause-step : goal.returns-in-Answered-Some-clause-step
returns-in-Answered-Some-clause-step g c first limit so within =
    let old = c.args.transcript.now.turns in
    let new = c.server_round.new.transcript.turns in
    let d = c.in_ok-request.request in
    let a = channel g.S.Source.left g.S.Source.faults g.W.Sink.written g.W.Sink.faults c.args.source.now c.args.sink.now in
    let b = channel g.S.Source.left g.S.Source.faults g.W.Sink.written g.W.Sink.faults c.read_request.new.source c.args.sink.now in
    let read = server_read old a b d c.in_ok-request.ensures (Keeps-refl _) refl in
    let pushed = rw c.in-Answered-Some.field-0-is at c.in-Answered-Some.ensures.turn in
    (pushed_newest Server d IsFinished old new pushed, turned Server d IsFinished old new first a b so read pushed)

pub returns-in-Refused-clause-step : goal.returns-in-Refused-clause-step
returns-in-Refused-clause-step g c first limit so within =
    let old = c.args.transcript.now.turns in
    let new = c.server_round.new.transcript.turns in
    let d = c.in_ok-request.request in
    let error = c.in-Refused.error in
    let a = channel g.S.Source.left g.S.Source.faults g.W.Sink.written g.W.Sink.faults c.args.source.now c.args.sink.now in
    let b = channel g.S.Source.left g.S.Source.faults g.W.Sink.written g.W.Sink.faults c.read_request.new.source c.args.sink.now in
    let e = channel g.S.Source.left g.S.Source.faults g.W.Sink.written g.W.Sink.faults c.read_request.new.source
    c.write_newest-told.new.sink in
    let read = server_read old a b d c.in_ok-request.ensures (Keeps-refl _) refl in
    let turn = turned Server d (IsServerRefusal error.error_type) old new first a b so read c.in-Refused.ensures.turn in
    told_stops limit error c.write_newest-told.result c.refusal_told.result new first e c.refusal_told.ensures
    (server_refuses d error.error_type old new first b e c.write_newest-told.result c.in-Refused.ensures.turn turn
    c.write_newest-told.ensures (Keeps-refl _) refl)

pub returns-in-Lost-clause-step : goal.returns-in-Lost-clause-step
returns-in-Lost-clause-step g c first limit so within =
    let old = c.args.transcript.now.turns in
    let d = c.in_ok-request.request in
    let a = channel g.S.Source.left g.S.Source.faults g.W.Sink.written g.W.Sink.faults c.args.source.now c.args.sink.now in
    let b = channel g.S.Source.left g.S.Source.faults g.W.Sink.written g.W.Sink.faults c.read_request.new.source c.args.sink.now in
    lost_stops Server limit d old c.server_round.new.transcript.turns first a b so within
    (server_read old a b d c.in_ok-request.ensures (Keeps-refl _) refl) tt c.in-Lost.ensures.turn

pub returns-in_ok-write_newest-in-Answered-None-clause-history : goal.returns-in_ok-write_newest-in-Answered-None-clause-history
returns-in_ok-write_newest-in-Answered-None-clause-history g c first whose history =
    let old = c.args.transcript.now.turns in
    let new = c.server_round.new.transcript.turns in
    let pushed = rw c.in-Answered-None.field-0-is at c.in-Answered-None.ensures.turn in
    server_calls (either g.N.Mechanism.REQUESTS g.N.Mechanism.meaning g.K.Mechanism.meaning) g.C.CredentialsProxy.meaning
    first c.args.server.now c.server_round.new.server old new (round.Answered None) whose
    (pushed_whose Server c.in_ok-request.request GoesOn old new pushed whose) history
    (λ h. rw c.in-Answered-None.field-0-is at (c.in-Answered-None.ensures.server_history first h))

pub returns-in_err-write_newest-in-Answered-None-clause-history : goal.returns-in_err-write_newest-in-Answered-None-clause-history
returns-in_err-write_newest-in-Answered-None-clause-history g c first whose history =
    let old = c.args.transcript.now.turns in
    let new = c.server_round.new.transcript.turns in
    let pushed = rw c.in-Answered-None.field-0-is at c.in-Answered-None.ensures.turn in
    let error = c.in_err-write_newest-in-Answered-None.field-0.0 in
    let p = err_from_is_err_and c.from_residual-in_err-write_newest-in-Answered-None.result
    c.from_residual-in_err-write_newest-in-Answered-None.ensures.1 in
    rw (p.1, p.2)
    (server_half_stopped (either g.N.Mechanism.REQUESTS g.N.Mechanism.meaning g.K.Mechanism.meaning) g.C.CredentialsProxy.meaning first
    c.server_round.new.server new error
    (write_is_no_refusal Server (newest_message new) _ _ _ _ error c.in_err-write_newest-in-Answered-None.ensures)
    (server_calls (either g.N.Mechanism.REQUESTS g.N.Mechanism.meaning g.K.Mechanism.meaning) g.C.CredentialsProxy.meaning
    first c.args.server.now c.server_round.new.server old new (round.Answered None) whose
    (pushed_whose Server c.in_ok-request.request GoesOn old new pushed whose) history
    (λ h. rw c.in-Answered-None.field-0-is at (c.in-Answered-None.ensures.server_history first h))))

pub returns-in-Answered-Some-clause-history : goal.returns-in-Answered-Some-clause-history
returns-in-Answered-Some-clause-history g c first whose history =
    let old = c.args.transcript.now.turns in
    let new = c.server_round.new.transcript.turns in
    let pushed = rw c.in-Answered-Some.field-0-is at c.in-Answered-Some.ensures.turn in
    server_calls (either g.N.Mechanism.REQUESTS g.N.Mechanism.meaning g.K.Mechanism.meaning) g.C.CredentialsProxy.meaning
    first c.args.server.now c.server_round.new.server old new (round.Answered (Some c.in-Answered-Some.identity)) whose
    (pushed_whose Server c.in_ok-request.request IsFinished old new pushed whose) history
    (λ h. rw c.in-Answered-Some.field-0-is at (c.in-Answered-Some.ensures.server_history first h))

pub returns-in-Refused-clause-history : goal.returns-in-Refused-clause-history
returns-in-Refused-clause-history g c first whose history =
    let old = c.args.transcript.now.turns in
    let new = c.server_round.new.transcript.turns in
    let error = c.in-Refused.error in
    told_past (either g.N.Mechanism.REQUESTS g.N.Mechanism.meaning g.K.Mechanism.meaning) g.C.CredentialsProxy.meaning first
    c.server_round.new.server new error c.write_newest-told.result c.refusal_told.result c.refusal_told.ensures
    (server_calls (either g.N.Mechanism.REQUESTS g.N.Mechanism.meaning g.K.Mechanism.meaning) g.C.CredentialsProxy.meaning
    first c.args.server.now c.server_round.new.server old new (round.Refused error) whose
    (pushed_whose Server c.in_ok-request.request (IsServerRefusal error.error_type) old new c.in-Refused.ensures.turn whose) history
    (λ h. c.in-Refused.ensures.server_history first h))

pub returns-in-Refused-clause-within : goal.returns-in-Refused-clause-within
returns-in-Refused-clause-within g c =
    let count = pushed_count Server c.in_ok-request.request (IsServerRefusal c.in-Refused.error.error_type)
    c.args.transcript.now.turns c.server_round.new.transcript.turns c.in-Refused.ensures.turn in
    omega (arith, count)

pub returns-in-Refused-clause-whose : goal.returns-in-Refused-clause-whose
returns-in-Refused-clause-whose g c whose =
    pushed_whose Server c.in_ok-request.request (IsServerRefusal c.in-Refused.error.error_type) c.args.transcript.now.turns
    c.server_round.new.transcript.turns c.in-Refused.ensures.turn whose
