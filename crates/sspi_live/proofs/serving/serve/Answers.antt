use Rattle.std.proofs.Common.{ap, arith, length, refl}
use Rattle.std.proofs.lemmas.Result.{err_from_is_err_and}
use Rattle.sspi_credssp.proofs.ContextLaws.{lawful}
use Rattle.sspi_credssp.specs.declared.turn.End.TheVariants.{Server}
use Rattle.sspi_credssp.specs.Context.{either}
use Rattle.sspi_delegate.proofs.Halves.{server_half_past}
use Rattle.sspi_delegate.proofs.Refusing.{proxy_on}
use Rattle.sspi_live.proofs.Newly.{served_fresh}
use Rattle.sspi_live.proofs.Stepping.{no_turn, none_of}
use Rattle.sspi_live.proofs.serving.serve.Goals as goal

pub returns-in_err-credentials-clause-answer : goal.returns-in_err-credentials-clause-answer
returns-in_err-credentials-clause-answer g c =
    let p = err_from_is_err_and c.from_residual.result c.from_residual.ensures.1 in
    let it = c.loop-turn.invariant in
    rw (p.1, p.2)
    (c.in_err-credentials.ensures.step _ c.args.limit it.so_far (omega (arith, it.count, c.loop-turn-test.true)))

pub returns-in_err-credentials-clause-history : goal.returns-in_err-credentials-clause-history
returns-in_err-credentials-clause-history g c =
    let p = err_from_is_err_and c.from_residual.result c.from_residual.ensures.1 in
    let it = c.loop-turn.invariant in
    rw (p.1, p.2)
    (server_half_past (either g.N.Mechanism.REQUESTS g.N.Mechanism.meaning g.K.Mechanism.meaning) g.C.CredentialsProxy.meaning _ _ _
    c.in_err-credentials.field-0.0 (c.in_err-credentials.ensures.history c.args.server.now it.whose it.history))

pub loop-turn-init : goal.loop-turn-init
loop-turn-init g c = record {
  so_far = no_turn Server _ _ c.clear.ensures;
  count = ap length c.clear.ensures;
  whose = none_of Server _ c.clear.ensures;
  history = rw c.clear.ensures refl;
  proxy = record { told_same = refl; counted = omega arith; calm = λ none. refl };
}

pub returns-in_err-credentials-clause-fresh : goal.returns-in_err-credentials-clause-fresh
returns-in_err-credentials-clause-fresh g c fresh =
    served_fresh (either g.N.Mechanism.REQUESTS g.N.Mechanism.meaning g.K.Mechanism.meaning)
    (lawful _ _ g.N.Mechanism.meaning g.K.Mechanism.meaning g.met.N.Mechanism.laws g.met.K.Mechanism.laws)
    g.C.CredentialsProxy.meaning c.args.limit _ _ _ _ _ _ (returns-in_err-credentials-clause-answer g c)
    (c.in_err-credentials.ensures.whose c.loop-turn.invariant.whose) (returns-in_err-credentials-clause-history g c) fresh

pub returns-in-Some-clause-answer : goal.returns-in-Some-clause-answer
returns-in-Some-clause-answer g c =
    let it = c.loop-turn.invariant in
    let step = rw c.in-Some.is at
    (c.in_ok-credentials.ensures.step _ c.args.limit it.so_far (omega (arith, it.count, c.loop-turn-test.true))) in
    (omega (arith, it.count, c.in_ok-credentials.ensures.count), step.0, step.1)

pub returns-in-Some-clause-history : goal.returns-in-Some-clause-history
returns-in-Some-clause-history g c =
    rw c.in-Some.is at
    (c.in_ok-credentials.ensures.history c.args.server.now c.loop-turn.invariant.whose c.loop-turn.invariant.history)

pub returns-in-Some-clause-fresh : goal.returns-in-Some-clause-fresh
returns-in-Some-clause-fresh g c fresh =
    served_fresh (either g.N.Mechanism.REQUESTS g.N.Mechanism.meaning g.K.Mechanism.meaning)
    (lawful _ _ g.N.Mechanism.meaning g.K.Mechanism.meaning g.met.N.Mechanism.laws g.met.K.Mechanism.laws)
    g.C.CredentialsProxy.meaning c.args.limit _ _ _ _ _ _ (returns-in-Some-clause-answer g c)
    (c.in_ok-credentials.ensures.whose c.loop-turn.invariant.whose) (returns-in-Some-clause-history g c) fresh

pub loop-turn-preserved : goal.loop-turn-preserved
loop-turn-preserved g c =
    let it = c.loop-turn.invariant in
    record {
      so_far = rw c.in_default.is at
          (c.in_ok-credentials.ensures.step _ c.args.limit it.so_far (omega (arith, it.count, c.loop-turn-test.true)));
      count = omega (arith, it.count, c.in_ok-credentials.ensures.count);
      whose = c.in_ok-credentials.ensures.whose it.whose;
      history = rw c.in_default.is at (c.in_ok-credentials.ensures.history c.args.server.now it.whose it.history);
      proxy = proxy_on _ _ _ _ it.proxy c.in_ok-credentials.ensures.proxy;
    }

pub returns-clause-answer : goal.returns-clause-answer
returns-clause-answer g c = (omega (arith, c.loop-turn.invariant.count), c.loop-turn.invariant.so_far)

pub returns-clause-fresh : goal.returns-clause-fresh
returns-clause-fresh g c fresh =
    served_fresh (either g.N.Mechanism.REQUESTS g.N.Mechanism.meaning g.K.Mechanism.meaning)
    (lawful _ _ g.N.Mechanism.meaning g.K.Mechanism.meaning g.met.N.Mechanism.laws g.met.K.Mechanism.laws)
    g.C.CredentialsProxy.meaning c.args.limit _ _ _ _ _ _ (returns-clause-answer g c) c.loop-turn.invariant.whose
    c.loop-turn.invariant.history fresh
