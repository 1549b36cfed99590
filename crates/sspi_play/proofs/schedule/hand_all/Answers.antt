use Rattle.std.proofs.Common.{List, ◌+◌, take, reverse, sym, subst, refl, arith}
use Rattle.std.proofs.lemmas.Result.{err_from_is_err_and}
use Rattle.sspi_credssp.specs.Context.{either}
use Rattle.sspi_delegate.specs.Chain.{kdc_calls}
use Rattle.sspi_delegate.proofs.Asking.{kdc_on}
use Rattle.sspi_delegate.proofs.Histories.{left_due}
use Rattle.sspi_delegate.proofs.Refusing.{proxy_on}
use Rattle.sspi_play.specs.declared.played.Delivery.{Delivery}
use Rattle.sspi_play.specs.Hands.{Stands}
use Rattle.sspi_play.proofs.Order.{reverse_more}
use Rattle.sspi_play.proofs.Steps.{first_stands, front_of, all_stands}
use Rattle.sspi_play.proofs.schedule.hand_all.Goals as goal

pub loop-delivery-init : goal.loop-delivery-init
loop-delivery-init g c = record {
  stands = λ empty. first_stands _ empty;
  client_history = λ empty. rw empty (refl, refl);
  server_history = λ empty. rw empty refl;
  identity = λ empty. rw empty refl;
  proxy = record { told_same = refl; counted = omega arith; calm = λ none. refl };
  kdc = record { told_same = refl; counted = omega arith };
}

pub loop-delivery-preserved : goal.loop-delivery-preserved
loop-delivery-preserved g c =
    let at = c.loop-delivery.invariant in
    record {
      stands = λ empty.
          subst (λ (l : List Delivery). Stands l c.hand.new.transcript.turns c.hand.new.standing)
          (sym (reverse_more c.args.schedule.now c.loop-delivery.delivery-index c.delivery-item.result c.loop-delivery-test.true
          c.delivery-item.is))
          (c.in_ok-hand.ensures.stands _ (at.stands empty));
      client_history = λ empty. c.in_ok-hand.ensures.client_history _ _ _ (at.stands empty) (at.client_history empty);
      server_history = λ empty. c.in_ok-hand.ensures.server_history _ (at.server_history empty);
      identity = λ empty. c.in_ok-hand.ensures.identity _ (at.server_history empty) (at.identity empty);
      proxy = proxy_on _ _ _ _ at.proxy c.in_ok-hand.ensures.proxy;
      kdc = kdc_on _ _ _ _ _ at.kdc c.in_ok-hand.ensures.kdc;
    }

pub returns-in_err-hand-clause-accounts : goal.returns-in_err-hand-clause-accounts
returns-in_err-hand-clause-accounts g c empty =
    let at = c.loop-delivery.invariant in
    let p = err_from_is_err_and c.from_residual.result c.from_residual.ensures.1 in
    rw (p.1, p.2)
    (record {
      the_turns_are_those_of_the_deliveries =
          front_of c.args.schedule.now c.loop-delivery.delivery-index c.delivery-item.result _ c.loop-delivery-test.true c.delivery-item.is
          (c.in_err-hand.ensures.stops _ (at.stands empty));
      deliveries_and_turns_say_how_the_ends_stand = tt;
      client_turns_are_its_calls = left_due (either g.N.Mechanism.REQUESTS g.N.Mechanism.meaning g.K.Mechanism.meaning)
          (kdc_calls g.D.Kdc.told g.D.Kdc.asked g.D.Kdc.faults) _ _ _ c.hand.new.client _ c.hand.new.kdc _
          (λ d taken. record {
            handed = c.loop-delivery.delivery-index + 1;
            delivery = c.delivery-item.result;
            past = reverse (take c.loop-delivery.delivery-index c.args.schedule.now);
            front = reverse_more c.args.schedule.now c.loop-delivery.delivery-index c.delivery-item.result c.loop-delivery-test.true
                c.delivery-item.is;
            taken = taken;
          })
          (c.in_err-hand.ensures.client_history _ _ _ (at.stands empty) (at.client_history empty));
      server_turns_are_its_calls = c.in_err-hand.ensures.server_history _ (at.server_history empty);
      the_identity_is_that_of_the_turn_that_finished = tt;
    })

pub returns-clause-accounts : goal.returns-clause-accounts
returns-clause-accounts g c empty =
    let at = c.loop-delivery.invariant in
    let stands = all_stands c.args.schedule.now c.loop-delivery.delivery-index _ _ c.loop-delivery-test.false (at.stands empty) in
    record {
      the_turns_are_those_of_the_deliveries = stands.plays;
      deliveries_and_turns_say_how_the_ends_stand = record {
        client = stands.client;
        server = stands.server;
        client_kind = stands.client_kind;
        server_kind = stands.server_kind;
      };
      client_turns_are_its_calls = at.client_history empty;
      server_turns_are_its_calls = at.server_history empty;
      the_identity_is_that_of_the_turn_that_finished = at.identity empty;
    }
