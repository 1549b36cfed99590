use Rattle.std.proofs.Common.{false, refl, rules}
use Rattle.std.proofs.lemmas.Result.{err_from_is_err_and}
use Rattle.sspi_credssp.specs.Context.{either}
use Rattle.sspi_credssp.specs.declared.turn.End.TheVariants.{Server}
use Rattle.sspi_delegate.specs.Log.{IsFinished, IsServerRefusal}
use Rattle.sspi_delegate.specs.Turns.{GoesOn}
use Rattle.sspi_delegate.proofs.Histories.{server_stopped_history}
use Rattle.sspi_play.proofs.Steps.{unread_is, pushed_turn}
use Rattle.sspi_play.proofs.hand.hand_server.Goals as goal

pub returns-in-Err-clause-hands : goal.returns-in-Err-clause-hands
returns-in-Err-clause-hands g c = (unread_is false c.args.bytes.now c.in-Err.kind (search rules) c.in-Err.ensures, refl)

pub returns-in-Answered-None-clause-hands : goal.returns-in-Answered-None-clause-hands
returns-in-Answered-None-clause-hands g c =
    pushed_turn Server false c.args.bytes.now c.in-Ok.request GoesOn _ _ c.in-Ok.ensures
    (rw c.in-Answered-None.field-0-is at c.in-Answered-None.ensures.turn)

pub returns-in-Answered-Some-clause-hands : goal.returns-in-Answered-Some-clause-hands
returns-in-Answered-Some-clause-hands g c =
    pushed_turn Server false c.args.bytes.now c.in-Ok.request IsFinished _ _ c.in-Ok.ensures
    (rw c.in-Answered-Some.field-0-is at c.in-Answered-Some.ensures.turn)

pub returns-in-Answered-None-clause-history : goal.returns-in-Answered-None-clause-history
returns-in-Answered-None-clause-history g c first history =
    rw c.in-Answered-None.field-0-is at c.in-Answered-None.ensures.server_history first history

pub returns-in-Answered-Some-clause-history : goal.returns-in-Answered-Some-clause-history
returns-in-Answered-Some-clause-history g c first history =
    rw c.in-Answered-Some.field-0-is at c.in-Answered-Some.ensures.server_history first history

pub returns-in_ok-ending-in-Refused-clause-history : goal.returns-in_ok-ending-in-Refused-clause-history
returns-in_ok-ending-in-Refused-clause-history g c first history =
    server_stopped_history (either g.N.Mechanism.REQUESTS g.N.Mechanism.meaning g.K.Mechanism.meaning) g.C.CredentialsProxy.meaning
    first c.server_round.new.server c.in-Refused.error _ (c.in-Refused.ensures.server_history first history)

pub returns-in_err-ending-in-Refused-clause-history : goal.returns-in_err-ending-in-Refused-clause-history
returns-in_err-ending-in-Refused-clause-history g c first history =
    let p = err_from_is_err_and c.from_residual.result c.from_residual.ensures.1 in
    rw p.1
    (server_stopped_history (either g.N.Mechanism.REQUESTS g.N.Mechanism.meaning g.K.Mechanism.meaning) g.C.CredentialsProxy.meaning
    first c.server_round.new.server c.in-Refused.error _ (c.in-Refused.ensures.server_history first history))

pub returns-in_ok-ending-in-Refused-clause-hands : goal.returns-in_ok-ending-in-Refused-clause-hands
returns-in_ok-ending-in-Refused-clause-hands g c =
    let by = c.in_ok-ending-in-Refused.ensures in
    rw by.0 (
      by.1,
      pushed_turn Server false c.args.bytes.now c.in-Ok.request (IsServerRefusal c.in-Refused.error.error_type) _ _ c.in-Ok.ensures
          c.in-Refused.ensures.turn,
    )

pub returns-in-Answered-None-clause-made : goal.returns-in-Answered-None-clause-made
returns-in-Answered-None-clause-made g c = rw c.in-Answered-None.field-0-is at c.in-Answered-None.ensures.made

pub returns-in_ok-ending-in-Refused-clause-made : goal.returns-in_ok-ending-in-Refused-clause-made
returns-in_ok-ending-in-Refused-clause-made g c =
    rw c.in_ok-ending-in-Refused.ensures.0
    (server_stopped_history (either g.N.Mechanism.REQUESTS g.N.Mechanism.meaning g.K.Mechanism.meaning) g.C.CredentialsProxy.meaning
    c.args.server.now c.server_round.new.server c.in-Refused.error _ c.in-Refused.ensures.made)
