use Rattle.std.proofs.Common.{Option}
use Rattle.std.proofs.lemmas.Result.{err_from_is_err_and}
use Rattle.sspi_names.specs.declared.identity.AuthIdentity.{AuthIdentity}
use Rattle.sspi_credssp.specs.declared.turn.End.TheVariants.{Server}
use Rattle.sspi_delegate.specs.Log.{IsServerRefusal}
use Rattle.sspi_credssp.specs.Context.{either}
use Rattle.sspi_delegate.proofs.Halves.{server_half_stopped, server_half_refused}
use Rattle.sspi_delegate.proofs.LogSteps.{but_last, turned, finishes, lost, newest_such, refusal_has_message, server_refused}
use Rattle.sspi_delegate.proofs.LogSteps.{server_left}
use Rattle.sspi_delegate.proofs.Reading.{read_still, refused_still}
use Rattle.sspi_delegate.proofs.exchange.server_half.Goals as goal

pub returns-in_err-request-clause-half : goal.returns-in_err-request-clause-half
returns-in_err-request-clause-half g c base start limit next w =
    let p = err_from_is_err_and c.from_residual.result c.from_residual.ensures.1 in
    rw (p.1, p.2)
    (c.in_err-request.ensures.err base start limit next (server_left limit _ next) w)

pub returns-in_ok-give-in-Answered-None-clause-half : goal.returns-in_ok-give-in-Answered-None-clause-half
returns-in_ok-give-in-Answered-None-clause-half g c base start limit next w =
    c.in_ok-give-in-Answered-None.ensures.ok base start
    (turned base start Server c.in_ok-request.request _ _ _ _ next (c.in_ok-request.ensures.ok base start w)
    (rw c.in-Answered-None.field-0-is at c.in-Answered-None.ensures.turn))

pub returns-in_err-give-in-Answered-None-clause-half : goal.returns-in_err-give-in-Answered-None-clause-half
returns-in_err-give-in-Answered-None-clause-half g c base start limit next w =
    let p = err_from_is_err_and c.from_residual-in_err-give-in-Answered-None.result
    c.from_residual-in_err-give-in-Answered-None.ensures.1 in
    rw (p.1, p.2)
    (c.in_err-give-in-Answered-None.ensures.err base start limit
    (turned base start Server c.in_ok-request.request _ _ _ _ next (c.in_ok-request.ensures.ok base start w)
    (rw c.in-Answered-None.field-0-is at c.in-Answered-None.ensures.turn)))

pub returns-in-Answered-Some-clause-half : goal.returns-in-Answered-Some-clause-half
returns-in-Answered-Some-clause-half g c base start limit next w =
    finishes base start c.in_ok-request.request _ _ _ _ next (c.in_ok-request.ensures.ok base start w)
    (rw c.in-Answered-Some.field-0-is at c.in-Answered-Some.ensures.turn)

pub returns-in-Refused-clause-half : goal.returns-in-Refused-clause-half
returns-in-Refused-clause-half g c base start limit next w =
    let v = c.in_ok-request.ensures.ok base start w in
    server_refused base start limit c.in-Refused.error c.server_error.result c.in_ok-request.request _ _ _ _ _ _
    next v c.in-Refused.ensures.turn c.server_error.ensures
    (c.give-given.ensures.given base start v.calm (refusal_has_message c.in_ok-request.request c.in-Refused.error.error_type _ _
    c.in-Refused.ensures.turn) (but_last base start Server c.in_ok-request.request
    (IsServerRefusal c.in-Refused.error.error_type) _ _ _ _ v c.in-Refused.ensures.turn))

pub returns-in-Lost-clause-half : goal.returns-in-Lost-clause-half
returns-in-Lost-clause-half g c base start limit next w =
    lost base start limit c.in_ok-request.request _ _ _ _ (server_left limit _ next) (c.in_ok-request.ensures.ok base start w)
    c.in-Lost.ensures.turn

pub returns-in_ok-give-in-Answered-None-clause-server_history : goal.returns-in_ok-give-in-Answered-None-clause-server_history
returns-in_ok-give-in-Answered-None-clause-server_history g c first history =
    rw c.in-Answered-None.field-0-is at c.in-Answered-None.ensures.server_history first history

pub returns-in_err-give-in-Answered-None-clause-server_history : goal.returns-in_err-give-in-Answered-None-clause-server_history
returns-in_err-give-in-Answered-None-clause-server_history g c first history =
    let p = err_from_is_err_and c.from_residual-in_err-give-in-Answered-None.result
    c.from_residual-in_err-give-in-Answered-None.ensures.1 in
    rw (p.1, p.2)
    (server_half_stopped (either g.N.Mechanism.REQUESTS g.N.Mechanism.meaning g.K.Mechanism.meaning) g.C.CredentialsProxy.meaning first
    c.server_round.new.server _ c.in_err-give-in-Answered-None.field-0.0 c.in_err-give-in-Answered-None.ensures.link
    (rw c.in-Answered-None.field-0-is at c.in-Answered-None.ensures.server_history first history))

pub returns-in-Answered-Some-clause-server_history : goal.returns-in-Answered-Some-clause-server_history
returns-in-Answered-Some-clause-server_history g c first history =
    rw c.in-Answered-Some.field-0-is at c.in-Answered-Some.ensures.server_history first history

pub returns-in-Refused-clause-server_history : goal.returns-in-Refused-clause-server_history
returns-in-Refused-clause-server_history g c first history =
    server_half_refused (either g.N.Mechanism.REQUESTS g.N.Mechanism.meaning g.K.Mechanism.meaning) g.C.CredentialsProxy.meaning first
    c.server_round.new.server _ c.in-Refused.error c.server_error.result c.server_error.ensures
    (c.in-Refused.ensures.server_history first history)

pub returns-in-Lost-clause-server_history : goal.returns-in-Lost-clause-server_history
returns-in-Lost-clause-server_history g c first history = c.in-Lost.ensures.server_history first history

pub returns-in_err-request-clause-server_history : goal.returns-in_err-request-clause-server_history
returns-in_err-request-clause-server_history g c first history =
    let p = err_from_is_err_and c.from_residual.result c.from_residual.ensures.1 in
    rw (p.1, p.2)
    (server_half_stopped (either g.N.Mechanism.REQUESTS g.N.Mechanism.meaning g.K.Mechanism.meaning) g.C.CredentialsProxy.meaning first
    c.args.server.now _ c.in_err-request.field-0.0 c.in_err-request.ensures.link history)

pub returns-in-Refused-clause-failing : goal.returns-in-Refused-clause-failing
returns-in-Refused-clause-failing g c =
    refused_still (Option AuthIdentity) _ _ _ _ _ c.give-given.result c.in-Refused.error c.server_error.result _ _ _
    c.in_ok-request.ensures.told.same (read_still _ _ _ c.in_ok-request.request c.in_ok-request.ensures.failing)
    c.give-given.ensures.failing c.give-given.ensures.same
    (newest_such Server c.in_ok-request.request (IsServerRefusal c.in-Refused.error.error_type) _ _ c.in-Refused.ensures.turn)
    c.server_error.ensures
