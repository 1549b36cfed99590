use Rattle.std.proofs.Common.{ap, arith, length, refl}
use Rattle.std.proofs.lemmas.Result.{err_from_is_err_and}
use Rattle.sspi_credssp.proofs.ContextLaws.{lawful}
use Rattle.sspi_credssp.specs.declared.turn.End.TheVariants.{Client}
use Rattle.sspi_credssp.specs.Context.{either}
use Rattle.sspi_delegate.specs.Chain.{kdc_calls}
use Rattle.sspi_delegate.proofs.Asking.{kdc_on}
use Rattle.sspi_delegate.proofs.Halves.{client_half_past}
use Rattle.sspi_live.specs.Channel.{channel}
use Rattle.sspi_live.proofs.Newly.{connected_fresh}
use Rattle.sspi_live.proofs.Stepping.{no_turn, none_begins, none_of}
use Rattle.sspi_live.proofs.connecting.connect.Goals as goal

pub loop-turn-init : goal.loop-turn-init
loop-turn-init g c = record {
  so_far = no_turn Client _ _ c.clear.ensures;
  count = ap length c.clear.ensures;
  whose = none_of Client _ c.clear.ensures;
  begins = none_begins _ c.clear.ensures;
  history = rw c.clear.ensures (refl, refl);
  kdc = record { told_same = refl; counted = omega arith };
}

pub returns-in_err-connect_turn-clause-answer : goal.returns-in_err-connect_turn-clause-answer
returns-in_err-connect_turn-clause-answer g c =
    let p = err_from_is_err_and c.from_residual.result c.from_residual.ensures.1 in
    let it = c.loop-turn.invariant in
    rw (p.1, p.2)
    (c.in_err-connect_turn.ensures.step _ c.args.limit it.so_far (omega (arith, it.count, c.loop-turn-test.true)))

pub returns-in_err-connect_turn-clause-history : goal.returns-in_err-connect_turn-clause-history
returns-in_err-connect_turn-clause-history g c =
    let p = err_from_is_err_and c.from_residual.result c.from_residual.ensures.1 in
    let it = c.loop-turn.invariant in
    rw (p.1, p.2)
    (client_half_past (either g.N.Mechanism.REQUESTS g.N.Mechanism.meaning g.K.Mechanism.meaning)
    (kdc_calls g.D.Kdc.told g.D.Kdc.asked g.D.Kdc.faults) _ _ _ _ _ _ c.in_err-connect_turn.field-0.0
    (c.in_err-connect_turn.ensures.history _ c.args.client.now c.args.kdc.now it.whose it.so_far it.history))

pub returns-in_err-connect_turn-clause-fresh : goal.returns-in_err-connect_turn-clause-fresh
returns-in_err-connect_turn-clause-fresh g c fresh =
    connected_fresh (either g.N.Mechanism.REQUESTS g.N.Mechanism.meaning g.K.Mechanism.meaning)
    (lawful _ _ g.N.Mechanism.meaning g.K.Mechanism.meaning g.met.N.Mechanism.laws g.met.K.Mechanism.laws)
    (kdc_calls g.D.Kdc.told g.D.Kdc.asked g.D.Kdc.faults) _ _ _ _ _ _ c.args.limit _ _ _
    (returns-in_err-connect_turn-clause-answer g c) (returns-in_err-connect_turn-clause-history g c) fresh

pub returns-then-branch-clause-answer : goal.returns-then-branch-clause-answer
returns-then-branch-clause-answer g c =
    let it = c.loop-turn.invariant in (
      omega (arith, it.count, c.in_ok-connect_turn.ensures.count),
      rw c.if-branch.true at
          (c.in_ok-connect_turn.ensures.step _ c.args.limit it.so_far (omega (arith, it.count, c.loop-turn-test.true))),
    )

pub returns-then-branch-clause-history : goal.returns-then-branch-clause-history
returns-then-branch-clause-history g c =
    let it = c.loop-turn.invariant in
    c.in_ok-connect_turn.ensures.history
    (channel g.S.Source.left g.S.Source.faults g.W.Sink.written g.W.Sink.faults c.args.source.now c.args.sink.now)
    c.args.client.now c.args.kdc.now it.whose it.so_far it.history

pub returns-then-branch-clause-fresh : goal.returns-then-branch-clause-fresh
returns-then-branch-clause-fresh g c fresh =
    connected_fresh (either g.N.Mechanism.REQUESTS g.N.Mechanism.meaning g.K.Mechanism.meaning)
    (lawful _ _ g.N.Mechanism.meaning g.K.Mechanism.meaning g.met.N.Mechanism.laws g.met.K.Mechanism.laws)
    (kdc_calls g.D.Kdc.told g.D.Kdc.asked g.D.Kdc.faults) _ _ _ _ _ _ c.args.limit _ _ _
    (returns-then-branch-clause-answer g c) (returns-then-branch-clause-history g c) fresh

pub loop-turn-preserved : goal.loop-turn-preserved
loop-turn-preserved g c =
    let it = c.loop-turn.invariant in
    let whose = c.in_ok-connect_turn.ensures.whose it.whose it.begins in
    record {
      so_far = rw c.if-branch.false at
          (c.in_ok-connect_turn.ensures.step _ c.args.limit it.so_far (omega (arith, it.count, c.loop-turn-test.true)));
      count = omega (arith, it.count, c.in_ok-connect_turn.ensures.count);
      whose = whose.0;
      begins = whose.1;
      history = c.in_ok-connect_turn.ensures.history
          (channel g.S.Source.left g.S.Source.faults g.W.Sink.written g.W.Sink.faults c.args.source.now c.args.sink.now)
          c.args.client.now c.args.kdc.now it.whose it.so_far it.history;
      kdc = kdc_on _ _ _ _ _ it.kdc c.in_ok-connect_turn.ensures.kdc;
    }

pub returns-clause-answer : goal.returns-clause-answer
returns-clause-answer g c = (omega (arith, c.loop-turn.invariant.count), c.loop-turn.invariant.so_far)

pub returns-clause-fresh : goal.returns-clause-fresh
returns-clause-fresh g c fresh =
    connected_fresh (either g.N.Mechanism.REQUESTS g.N.Mechanism.meaning g.K.Mechanism.meaning)
    (lawful _ _ g.N.Mechanism.meaning g.K.Mechanism.meaning g.met.N.Mechanism.laws g.met.K.Mechanism.laws)
    (kdc_calls g.D.Kdc.told g.D.Kdc.asked g.D.Kdc.faults) _ _ _ _ _ _ c.args.limit _ _ _
    (returns-clause-answer g c) c.loop-turn.invariant.history fresh
