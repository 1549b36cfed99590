use Rattle.std.proofs.Common.{Some, sym, ◌∙◌, refl}
use Rattle.std.proofs.lemmas.Result.{err_from_is_err_and}
use Rattle.sspi_credssp.specs.Context.{either}
use Rattle.sspi_credssp.specs.declared.turn.End.TheVariants.{Client}
use Rattle.sspi_delegate.specs.Chain.{kdc_calls}
use Rattle.sspi_delegate.proofs.Histories.{left_due}
use Rattle.sspi_play.proofs.Gives.{gave_on, gave_now}
use Rattle.sspi_play.proofs.Histories.{history_goes}
use Rattle.sspi_play.proofs.Order.{running_unrefused}
use Rattle.sspi_play.proofs.Steps.{unread_stops, refused_stops, left_taken, client_stands, client_passed, client_stops, server_stands}
use Rattle.sspi_play.proofs.Steps.{server_finishes, server_passed, server_stops}
use Rattle.sspi_play.proofs.hand.hand.Goals as goal

pub returns-in_ok-ending-in-Running-clause-stands : goal.returns-in_ok-ending-in-Running-clause-stands
returns-in_ok-ending-in-Running-clause-stands g c past stands =
    client_stands c.args.delivery.now past _ c.in_ok-ending-in-Running.ending _ _ c.args.standing.now c.in-Client.is refl c.in-Running.is
    c.in_ok-ending-in-Running.ensures.hands stands

pub returns-in_ok-ending-in-Running-clause-client_history : goal.returns-in_ok-ending-in-Running-clause-client_history
returns-in_ok-ending-in-Running-clause-client_history g c first kdc_first past stands history =
    c.in_ok-ending-in-Running.ensures.history first kdc_first
    (history_goes (either g.N.Mechanism.REQUESTS g.N.Mechanism.meaning g.K.Mechanism.meaning)
    (kdc_calls g.D.Kdc.told g.D.Kdc.asked g.D.Kdc.faults) _ _ _ _ _
    (running_unrefused Client past _ stands.plays (sym stands.client ∙ c.in-Running.is)) history) history

pub returns-in_err-ending-in-Running-clause-stops : goal.returns-in_err-ending-in-Running-clause-stops
returns-in_err-ending-in-Running-clause-stops g c =
    let p = err_from_is_err_and c.from_residual.result c.from_residual.ensures.1 in
    rw p.1 (λ past stands. client_stops c.args.delivery.now past _ c.in_err-ending-in-Running.field-0.0 _ _ c.args.standing.now
    c.in-Client.is refl c.in-Running.is
    c.in_err-ending-in-Running.ensures.hands stands)

pub returns-in_err-ending-in-Running-clause-client_history : goal.returns-in_err-ending-in-Running-clause-client_history
returns-in_err-ending-in-Running-clause-client_history g c first kdc_first past stands history =
    let p = err_from_is_err_and c.from_residual.result c.from_residual.ensures.1 in
    rw p.1
    (left_due (either g.N.Mechanism.REQUESTS g.N.Mechanism.meaning g.K.Mechanism.meaning)
    (kdc_calls g.D.Kdc.told g.D.Kdc.asked g.D.Kdc.faults) _ _ first c.hand_client.new.client kdc_first c.hand_client.new.kdc _
    (λ d left. left_taken c.args.delivery.now past _ c.args.transcript.now.turns _ c.args.standing.now d c.in-Client.is refl
    c.in-Running.is stands left)
    (c.in_err-ending-in-Running.ensures.history first kdc_first
    (history_goes (either g.N.Mechanism.REQUESTS g.N.Mechanism.meaning g.K.Mechanism.meaning)
    (kdc_calls g.D.Kdc.told g.D.Kdc.asked g.D.Kdc.faults) _ _ _ _ _
    (running_unrefused Client past _ stands.plays (sym stands.client ∙ c.in-Running.is)) history) history))

pub returns-in-Refused-clause-stands : goal.returns-in-Refused-clause-stands
returns-in-Refused-clause-stands g c past stands =
    client_passed c.args.delivery.now past _ c.args.standing.now c.in-Client.is (refused_stops _ _ c.in-Refused.is) stands

pub returns-in-Unread-clause-stands : goal.returns-in-Unread-clause-stands
returns-in-Unread-clause-stands g c past stands =
    client_passed c.args.delivery.now past _ c.args.standing.now c.in-Client.is (unread_stops _ _ c.in-Unread.is) stands

pub returns-in-Stands-clause-stands : goal.returns-in-Stands-clause-stands
returns-in-Stands-clause-stands g c past stands =
    server_stands c.args.delivery.now past c.in-Stands.ending _ _ c.args.standing.now c.in-Server.is c.in-Running-server.is
    (rw c.in-Stands.is at c.in_ok-ending-in-Running-server.ensures.hands) stands

pub returns-in-Stands-clause-server_history : goal.returns-in-Stands-clause-server_history
returns-in-Stands-clause-server_history g c first history =
    rw c.in-Stands.is at (c.in_ok-ending-in-Running-server.ensures.history first history)

pub returns-in-Stands-clause-identity : goal.returns-in-Stands-clause-identity
returns-in-Stands-clause-identity g c first history gave =
    gave_on (either g.N.Mechanism.REQUESTS g.N.Mechanism.meaning g.K.Mechanism.meaning) g.C.CredentialsProxy.meaning first
    c.args.server.now c.hand_server.new.server c.args.standing.now.played.identity c.in-Stands.ending c.args.delivery.now.bytes _ _
    (rw c.in-Stands.is at c.in_ok-ending-in-Running-server.ensures.hands)
    (rw c.in-Stands.is at c.in_ok-ending-in-Running-server.ensures.made) gave

pub returns-in-Finished-clause-stands : goal.returns-in-Finished-clause-stands
returns-in-Finished-clause-stands g c past stands =
    server_finishes c.args.delivery.now past (Some c.in-Finished.identity) _ _ c.args.standing.now c.in-Server.is c.in-Running-server.is
    (rw c.in-Finished.is at c.in_ok-ending-in-Running-server.ensures.hands) stands

pub returns-in-Finished-clause-server_history : goal.returns-in-Finished-clause-server_history
returns-in-Finished-clause-server_history g c first history =
    (rw c.in-Finished.is at (c.in_ok-ending-in-Running-server.ensures.history first history)).0

pub returns-in-Finished-clause-identity : goal.returns-in-Finished-clause-identity
returns-in-Finished-clause-identity g c first history gave =
    gave_now (either g.N.Mechanism.REQUESTS g.N.Mechanism.meaning g.K.Mechanism.meaning) g.C.CredentialsProxy.meaning first
    c.hand_server.new.server c.in-Finished.identity c.args.delivery.now.bytes _ _
    (rw c.in-Finished.is at c.in_ok-ending-in-Running-server.ensures.hands)
    (rw c.in-Finished.is at (c.in_ok-ending-in-Running-server.ensures.history first history))

pub returns-in_err-ending-in-Running-server-clause-stops : goal.returns-in_err-ending-in-Running-server-clause-stops
returns-in_err-ending-in-Running-server-clause-stops g c =
    let p = err_from_is_err_and c.from_residual-in_err-ending-in-Running-server.result
    c.from_residual-in_err-ending-in-Running-server.ensures.1 in
    rw p.1 (λ past stands. server_stops c.args.delivery.now past c.in_err-ending-in-Running-server.field-0.0 _ _
    c.args.standing.now c.in-Server.is c.in-Running-server.is
    c.in_err-ending-in-Running-server.ensures.hands stands)

pub returns-in-Refused-server-clause-stands : goal.returns-in-Refused-server-clause-stands
returns-in-Refused-server-clause-stands g c past stands =
    server_passed c.args.delivery.now past _ c.args.standing.now c.in-Server.is (refused_stops _ _ c.in-Refused-server.is) stands

pub returns-in-Unread-server-clause-stands : goal.returns-in-Unread-server-clause-stands
returns-in-Unread-server-clause-stands g c past stands =
    server_passed c.args.delivery.now past _ c.args.standing.now c.in-Server.is (unread_stops _ _ c.in-Unread-server.is) stands
