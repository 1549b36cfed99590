use Rattle.std.proofs.Common.{◌≡◌}
use Rattle.std.proofs.lemmas.Result.{err_from_is_err_and}
use Rattle.sspi_credssp.specs.declared.turn.End.TheVariants.{Client}
use Rattle.sspi_credssp.specs.Context.{either}
use Rattle.sspi_delegate.proofs.Alternating.{clients_go}
use Rattle.sspi_delegate.proofs.Halves.{client_half_stopped, client_half_refused}
use Rattle.sspi_delegate.proofs.Histories.{left_due, left_lost}
use Rattle.sspi_delegate.proofs.LogSteps.{turned, lost, client_refused}
use Rattle.sspi_delegate.specs.Chain.{kdc_calls}
use Rattle.sspi_delegate.specs.Turns.{client_turns}
use Rattle.sspi_delegate.proofs.exchange.client_half.Goals as goal

pub returns-in_ok-give-in-Answered-clause-half : goal.returns-in_ok-give-in-Answered-clause-half
returns-in_ok-give-in-Answered-clause-half g c base start limit next left w =
    c.in_ok-give-in-Answered.ensures.ok base start
    (turned base start Client c.in_ok-request.request _ _ _ _ next (c.in_ok-request.ensures.ok base start w) c.in-Answered.ensures.turn)

pub returns-in_err-give-in-Answered-clause-half : goal.returns-in_err-give-in-Answered-clause-half
returns-in_err-give-in-Answered-clause-half g c base start limit next left w =
    let p = err_from_is_err_and c.from_residual-in_err-give-in-Answered.result c.from_residual-in_err-give-in-Answered.ensures.1 in
    rw (p.1, p.2)
    (c.in_err-give-in-Answered.ensures.err base start limit
    (turned base start Client c.in_ok-request.request _ _ _ _ next (c.in_ok-request.ensures.ok base start w) c.in-Answered.ensures.turn))

pub returns-in-Refused-clause-half : goal.returns-in-Refused-clause-half
returns-in-Refused-clause-half g c base start limit next left w =
    client_refused base start limit c.in-Refused.error c.client_error.result c.in_ok-request.request _ _ _ _
    next (c.in_ok-request.ensures.ok base start w) c.in-Refused.ensures.turn c.client_error.ensures

pub returns-in-Lost-clause-half : goal.returns-in-Lost-clause-half
returns-in-Lost-clause-half g c base start limit next left w =
    lost base start limit c.in_ok-request.request _ _ _ _ left (c.in_ok-request.ensures.ok base start w) c.in-Lost.ensures.turn

pub returns-in_ok-give-in-Answered-clause-client_history : goal.returns-in_ok-give-in-Answered-clause-client_history
returns-in_ok-give-in-Answered-clause-client_history g c base start first kdc_first next w history =
    c.in-Answered.ensures.client_history first kdc_first history

pub returns-in_err-give-in-Answered-clause-client_history : goal.returns-in_err-give-in-Answered-clause-client_history
returns-in_err-give-in-Answered-clause-client_history g c base start first kdc_first next w history =
    let p = err_from_is_err_and c.from_residual-in_err-give-in-Answered.result c.from_residual-in_err-give-in-Answered.ensures.1 in
    rw (p.1, p.2)
    (client_half_stopped (either g.N.Mechanism.REQUESTS g.N.Mechanism.meaning g.K.Mechanism.meaning)
    (kdc_calls g.D.Kdc.told g.D.Kdc.asked g.D.Kdc.faults) _ first c.client_round.new.client kdc_first
    c.client_round.new.kdc _ c.in_err-give-in-Answered.field-0.0 c.in_err-give-in-Answered.ensures.link
    (c.in-Answered.ensures.client_history first kdc_first history))

pub returns-in-Refused-clause-client_history : goal.returns-in-Refused-clause-client_history
returns-in-Refused-clause-client_history g c base start first kdc_first next w history =
    client_half_refused (either g.N.Mechanism.REQUESTS g.N.Mechanism.meaning g.K.Mechanism.meaning)
    (kdc_calls g.D.Kdc.told g.D.Kdc.asked g.D.Kdc.faults) _ first c.client_round.new.client kdc_first
    c.client_round.new.kdc _ c.in-Refused.error c.client_error.result c.client_error.ensures
    (c.in-Refused.ensures.client_history first kdc_first history)

pub returns-in-Lost-clause-client_history : goal.returns-in-Lost-clause-client_history
returns-in-Lost-clause-client_history g c base start first kdc_first next w history =
    let asked = c.in_ok-request.ensures.ok base start w in
    left_due (either g.N.Mechanism.REQUESTS g.N.Mechanism.meaning g.K.Mechanism.meaning)
    (kdc_calls g.D.Kdc.told g.D.Kdc.asked g.D.Kdc.faults) (λ d. d ≡ c.in_ok-request.request) _ first c.client_round.new.client kdc_first
    c.client_round.new.kdc _ (λ d is. rw (is, c.in-Lost.ensures.turn)
    (asked.going, next, asked.entries, asked.delivered))
    (left_lost (either g.N.Mechanism.REQUESTS g.N.Mechanism.meaning g.K.Mechanism.meaning)
    (kdc_calls g.D.Kdc.told g.D.Kdc.asked g.D.Kdc.faults) c.in_ok-request.request first c.client_round.new.client kdc_first
    c.client_round.new.kdc (client_turns c.client_round.new.transcript.turns) (rw c.in-Lost.ensures.turn (clients_go _ w.going))
    (c.in-Lost.ensures.client_history first kdc_first history))

pub returns-in_err-request-clause-client_history : goal.returns-in_err-request-clause-client_history
returns-in_err-request-clause-client_history g c base start first kdc_first next w history =
    let p = err_from_is_err_and c.from_residual.result c.from_residual.ensures.1 in
    rw (p.1, p.2)
    (client_half_stopped (either g.N.Mechanism.REQUESTS g.N.Mechanism.meaning g.K.Mechanism.meaning)
    (kdc_calls g.D.Kdc.told g.D.Kdc.asked g.D.Kdc.faults) _ first c.args.client.now kdc_first
    c.args.kdc.now _ c.in_err-request.field-0.0 c.in_err-request.ensures.link history)
