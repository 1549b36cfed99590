use Rattle.std.proofs.Common.{◌≡◌, refl, rules}
use Rattle.sspi_credssp.specs.Context.{either}
use Rattle.sspi_credssp.specs.declared.turn.End.TheVariants.{Client}
use Rattle.sspi_delegate.specs.Chain.{kdc_calls}
use Rattle.sspi_delegate.specs.Log.{IsClientRefusal}
use Rattle.sspi_delegate.specs.Turns.{GoesOn, client_turns}
use Rattle.sspi_delegate.proofs.Histories.{left_due, left_lost}
use Rattle.sspi_play.specs.Hands.{IsLeft}
use Rattle.sspi_play.proofs.Histories.{stopped_played}
use Rattle.sspi_play.proofs.Steps.{unread_is, pushed_turn, client_ended}
use Rattle.sspi_play.proofs.hand.hand_client.Goals as goal

pub returns-in-Err-clause-hands : goal.returns-in-Err-clause-hands
returns-in-Err-clause-hands g c = (unread_is c.args.start c.args.bytes.now c.in-Err.kind (search rules) c.in-Err.ensures, refl)

pub returns-in-Answered-clause-hands : goal.returns-in-Answered-clause-hands
returns-in-Answered-clause-hands g c =
    pushed_turn Client c.args.start c.args.bytes.now c.in-Ok.request GoesOn _ _ c.in-Ok.ensures c.in-Answered.ensures.turn

pub returns-in-Refused-clause-hands : goal.returns-in-Refused-clause-hands
returns-in-Refused-clause-hands g c =
    client_ended c.args.start c.args.bytes.now c.in-Refused.error.error_type c.ending_by.result _ _ c.ending_by.ensures
    (pushed_turn Client c.args.start c.args.bytes.now c.in-Ok.request
    (IsClientRefusal c.in-Refused.error.error_type) _ _ c.in-Ok.ensures c.in-Refused.ensures.turn)

pub returns-in-Answered-clause-history : goal.returns-in-Answered-clause-history
returns-in-Answered-clause-history g c first kdc_first going history = c.in-Answered.ensures.client_history first kdc_first history

pub returns-in-Refused-clause-history : goal.returns-in-Refused-clause-history
returns-in-Refused-clause-history g c first kdc_first going history =
    stopped_played (either g.N.Mechanism.REQUESTS g.N.Mechanism.meaning g.K.Mechanism.meaning)
    (kdc_calls g.D.Kdc.told g.D.Kdc.asked g.D.Kdc.faults)
    (IsLeft c.args.start c.args.bytes.now c.args.transcript.now.turns c.client_round.new.transcript.turns)
    c.ending_by.result first c.client_round.new.client kdc_first c.client_round.new.kdc c.in-Refused.error _
    (c.in-Refused.ensures.client_history first kdc_first history)

pub returns-in-Lost-clause-history : goal.returns-in-Lost-clause-history
returns-in-Lost-clause-history g c first kdc_first going history =
    left_due (either g.N.Mechanism.REQUESTS g.N.Mechanism.meaning g.K.Mechanism.meaning)
    (kdc_calls g.D.Kdc.told g.D.Kdc.asked g.D.Kdc.faults) (λ d. d ≡ c.in-Ok.request)
    (IsLeft c.args.start c.args.bytes.now c.args.transcript.now.turns c.client_round.new.transcript.turns)
    first c.client_round.new.client kdc_first c.client_round.new.kdc _ (λ d is. rw is (c.in-Ok.ensures, c.in-Lost.ensures.turn))
    (left_lost (either g.N.Mechanism.REQUESTS g.N.Mechanism.meaning g.K.Mechanism.meaning)
    (kdc_calls g.D.Kdc.told g.D.Kdc.asked g.D.Kdc.faults) c.in-Ok.request first c.client_round.new.client kdc_first
    c.client_round.new.kdc (client_turns c.client_round.new.transcript.turns) (rw c.in-Lost.ensures.turn going)
    (c.in-Lost.ensures.client_history first kdc_first history))
