use Rattle.std.proofs.Common.{◌+◌, ap, sym, ◌∙◌, refl, arith, Option}
use Rattle.std.proofs.lemmas.Result.{err_from_is_err_and}
use Rattle.sspi_names.specs.declared.identity.AuthIdentity.{AuthIdentity}
use Rattle.sspi_delegate.specs.declared.answer.Delegation.{Delegation}
use Rattle.sspi_delegate.specs.Halves.{Between}
use Rattle.sspi_delegate.proofs.LogSteps.{at_first, left_at, spent}
use Rattle.sspi_credssp.specs.Context.{either}
use Rattle.sspi_delegate.proofs.Halves.{client_half_past, server_beside, client_beside, server_half_past}
use Rattle.sspi_delegate.specs.Chain.{kdc_calls}
use Rattle.sspi_delegate.proofs.Asking.{kdc_on}
use Rattle.sspi_delegate.proofs.Refusing.{proxy_on}
use Rattle.sspi_delegate.proofs.Reading.{stays_on, still_first, still_on, still_spent, still_stopped}
use Rattle.sspi_delegate.proofs.exchange.rounds.Goals as goal

pub returns-in_err-client_half-clause-cause : goal.returns-in_err-client_half-clause-cause
returns-in_err-client_half-clause-cause g c empty =
    let p = err_from_is_err_and c.from_residual.result c.from_residual.ensures.1 in
    rw (p.1, p.2)
    (let at = c.loop-turn.invariant.at_turn empty in
    c.in_err-client_half.ensures.half _ _ c.args.limit at.next (left_at _ _ _ _ _ _ _ at c.loop-turn-test.true) at.between)

pub returns-in-Some-clause-cause : goal.returns-in-Some-clause-cause
returns-in-Some-clause-cause g c empty =
    let at = c.loop-turn.invariant.at_turn empty in
    let between : Between (g.L.Link.log c.args.link.now) (g.L.Link.faults c.args.link.now) c.client_half.new.transcript.turns
    (g.L.Link.log c.client_half.new.link) (g.L.Link.faults c.client_half.new.link) =
    c.in_ok-client_half.ensures.half _ _ c.args.limit at.next (left_at _ _ _ _ _ _ _ at c.loop-turn-test.true) at.between in (
      rw c.in-Some.is at (c.in_ok-credentials.ensures.half (g.L.Link.log c.args.link.now)
          (g.L.Link.faults c.args.link.now) c.args.limit c.in_ok-client_half.ensures.next between),
      sym (c.in_ok-credentials.ensures.count ∙ c.in_ok-client_half.ensures.count ∙ ap (λ n. n + 1) at.made),
    )

pub returns-in_err-credentials-clause-cause : goal.returns-in_err-credentials-clause-cause
returns-in_err-credentials-clause-cause g c empty =
    let p = err_from_is_err_and c.from_residual-in_err-credentials.result c.from_residual-in_err-credentials.ensures.1 in
    rw (p.1, p.2)
    (let at = c.loop-turn.invariant.at_turn empty in
    let between : Between (g.L.Link.log c.args.link.now) (g.L.Link.faults c.args.link.now) c.client_half.new.transcript.turns
    (g.L.Link.log c.client_half.new.link) (g.L.Link.faults c.client_half.new.link) =
    c.in_ok-client_half.ensures.half _ _ c.args.limit at.next (left_at _ _ _ _ _ _ _ at c.loop-turn-test.true) at.between in
    c.in_err-credentials.ensures.half _ _ c.args.limit c.in_ok-client_half.ensures.next between)

pub loop-turn-init : goal.loop-turn-init
loop-turn-init g c = record {
  at_turn = λ empty. at_first _ _ _ empty;
  client_history = λ empty. rw empty (refl, refl);
  server_history = λ empty. rw empty refl;
  told = record { same = refl; follows = λ h. h };
  proxy = record { told_same = refl; counted = omega arith; calm = λ none. refl };
  kdc = record { told_same = refl; counted = omega arith };
  still = still_first _ _;
}

pub loop-turn-preserved : goal.loop-turn-preserved
loop-turn-preserved g c = record {
  at_turn = λ empty.
      let at = c.loop-turn.invariant.at_turn empty in
      let between : Between (g.L.Link.log c.args.link.now) (g.L.Link.faults c.args.link.now) c.client_half.new.transcript.turns
      (g.L.Link.log c.client_half.new.link) (g.L.Link.faults c.client_half.new.link) =
      c.in_ok-client_half.ensures.half _ _ c.args.limit at.next (left_at _ _ _ _ _ _ _ at c.loop-turn-test.true) at.between in
      record {
        between = rw c.in_default.is at (c.in_ok-credentials.ensures.half (g.L.Link.log c.args.link.now)
            (g.L.Link.faults c.args.link.now) c.args.limit c.in_ok-client_half.ensures.next between);
        next = c.in_ok-credentials.ensures.next;
        made = c.in_ok-credentials.ensures.count ∙ c.in_ok-client_half.ensures.count ∙ ap (λ n. n + 1) at.made;
      };
  client_history = λ empty.
      rw c.in_ok-credentials.ensures.client
      (c.in_ok-client_half.ensures.client_history _ _ _ _ (c.loop-turn.invariant.at_turn empty).next
      (c.loop-turn.invariant.at_turn empty).between
      (c.loop-turn.invariant.client_history empty));
  server_history = λ empty.
      rw c.in_default.is at
      (c.in_ok-credentials.ensures.server_history c.args.server.now
      (rw c.in_ok-client_half.ensures.server (c.loop-turn.invariant.server_history empty)));
  proxy = proxy_on _ _ _ _ c.loop-turn.invariant.proxy c.in_ok-credentials.ensures.proxy;
  kdc = kdc_on _ _ _ _ _ c.loop-turn.invariant.kdc c.in_ok-client_half.ensures.kdc;
  told = stays_on _ _ _ _ _ _ c.loop-turn.invariant.told
      (stays_on _ _ _ _ _ _ c.in_ok-client_half.ensures.told c.in_ok-credentials.ensures.told);
  still = still_on _ _ _ _ _ _ _ _ (stays_on _ _ _ _ _ _ c.loop-turn.invariant.told c.in_ok-client_half.ensures.told).same
      (still_on _ _ _ _ _ _ _ _ c.loop-turn.invariant.told.same c.loop-turn.invariant.still c.in_ok-client_half.ensures.failing)
      c.in_ok-credentials.ensures.failing;
}

pub returns-clause-cause : goal.returns-clause-cause
returns-clause-cause g c empty = spent _ _ _ _ _ _ _ (c.loop-turn.invariant.at_turn empty) (omega arith)

pub returns-clause-failing : goal.returns-clause-failing
returns-clause-failing g c = still_spent _ _ _ _ _ _ c.loop-turn.invariant.still

pub returns-in_err-client_half-clause-client_history : goal.returns-in_err-client_half-clause-client_history
returns-in_err-client_half-clause-client_history g c empty =
    let p = err_from_is_err_and c.from_residual.result c.from_residual.ensures.1 in
    rw (p.1, p.2)
    (client_half_past (either g.N.Mechanism.REQUESTS g.N.Mechanism.meaning g.K.Mechanism.meaning)
    (kdc_calls g.D.Kdc.told g.D.Kdc.asked g.D.Kdc.faults) _ _ _ _ _ _ c.in_err-client_half.field-0.0
    (c.in_err-client_half.ensures.client_history _ _ _ _ (c.loop-turn.invariant.at_turn empty).next
    (c.loop-turn.invariant.at_turn empty).between
    (c.loop-turn.invariant.client_history empty)))

pub returns-in_err-client_half-clause-server_history : goal.returns-in_err-client_half-clause-server_history
returns-in_err-client_half-clause-server_history g c empty =
    let p = err_from_is_err_and c.from_residual.result c.from_residual.ensures.1 in
    rw (p.1, p.2)
    (server_beside (either g.N.Mechanism.REQUESTS g.N.Mechanism.meaning g.K.Mechanism.meaning)
    (kdc_calls g.D.Kdc.told g.D.Kdc.asked g.D.Kdc.faults) _ g.C.CredentialsProxy.meaning
    _ _ _ _ _ c.in_err-client_half.field-0.0 _ _ _
    (c.in_err-client_half.ensures.client_history _ _ _ _ (c.loop-turn.invariant.at_turn empty).next
    (c.loop-turn.invariant.at_turn empty).between
    (c.loop-turn.invariant.client_history empty))
    (rw c.in_err-client_half.ensures.server (c.loop-turn.invariant.server_history empty)))

pub returns-in-Some-clause-client_history : goal.returns-in-Some-clause-client_history
returns-in-Some-clause-client_history g c empty =
    rw c.in_ok-credentials.ensures.client
    (c.in_ok-client_half.ensures.client_history _ _ _ _ (c.loop-turn.invariant.at_turn empty).next
    (c.loop-turn.invariant.at_turn empty).between
    (c.loop-turn.invariant.client_history empty))

pub returns-in-Some-clause-server_history : goal.returns-in-Some-clause-server_history
returns-in-Some-clause-server_history g c empty =
    rw c.in-Some.is at
    (c.in_ok-credentials.ensures.server_history c.args.server.now
    (rw c.in_ok-client_half.ensures.server (c.loop-turn.invariant.server_history empty)))

pub returns-in_err-credentials-clause-client_history : goal.returns-in_err-credentials-clause-client_history
returns-in_err-credentials-clause-client_history g c empty =
    let p = err_from_is_err_and c.from_residual-in_err-credentials.result c.from_residual-in_err-credentials.ensures.1 in
    rw (p.1, p.2)
    (client_beside (either g.N.Mechanism.REQUESTS g.N.Mechanism.meaning g.K.Mechanism.meaning)
    (kdc_calls g.D.Kdc.told g.D.Kdc.asked g.D.Kdc.faults) _ g.C.CredentialsProxy.meaning
    _ _ _ _ _ c.in_err-credentials.field-0.0 _ _ _
    (c.in_err-credentials.ensures.server_history c.args.server.now
    (rw c.in_ok-client_half.ensures.server (c.loop-turn.invariant.server_history empty)))
    (rw c.in_err-credentials.ensures.client
    (c.in_ok-client_half.ensures.client_history _ _ _ _ (c.loop-turn.invariant.at_turn empty).next
    (c.loop-turn.invariant.at_turn empty).between
    (c.loop-turn.invariant.client_history empty))))

pub returns-in_err-credentials-clause-server_history : goal.returns-in_err-credentials-clause-server_history
returns-in_err-credentials-clause-server_history g c empty =
    let p = err_from_is_err_and c.from_residual-in_err-credentials.result c.from_residual-in_err-credentials.ensures.1 in
    rw (p.1, p.2)
    (server_half_past (either g.N.Mechanism.REQUESTS g.N.Mechanism.meaning g.K.Mechanism.meaning) g.C.CredentialsProxy.meaning _ _ _
    c.in_err-credentials.field-0.0
    (c.in_err-credentials.ensures.server_history c.args.server.now
    (rw c.in_ok-client_half.ensures.server (c.loop-turn.invariant.server_history empty))))

pub returns-clause-client_history : goal.returns-clause-client_history
returns-clause-client_history g c empty = c.loop-turn.invariant.client_history empty

pub returns-clause-server_history : goal.returns-clause-server_history
returns-clause-server_history g c empty = c.loop-turn.invariant.server_history empty

pub returns-in_err-client_half-clause-failing : goal.returns-in_err-client_half-clause-failing
returns-in_err-client_half-clause-failing g c =
    let p = err_from_is_err_and c.from_residual.result c.from_residual.ensures.1 in
    rw (p.1, p.2)
    (still_stopped (Unit {0}) Delegation _ _ _ _ _ c.in_err-client_half.field-0.0 _ _ c.loop-turn.invariant.told.same
    c.loop-turn.invariant.still
    c.in_err-client_half.ensures.failing)

pub returns-in_err-credentials-clause-failing : goal.returns-in_err-credentials-clause-failing
returns-in_err-credentials-clause-failing g c =
    let p = err_from_is_err_and c.from_residual-in_err-credentials.result c.from_residual-in_err-credentials.ensures.1 in
    rw (p.1, p.2)
    (still_stopped (Option AuthIdentity) Delegation _ _ _ _ _ c.in_err-credentials.field-0.0 _ _
    (stays_on _ _ _ _ _ _ c.loop-turn.invariant.told c.in_ok-client_half.ensures.told).same
    (still_on _ _ _ _ _ _ _ _ c.loop-turn.invariant.told.same c.loop-turn.invariant.still c.in_ok-client_half.ensures.failing)
    c.in_err-credentials.ensures.failing)
