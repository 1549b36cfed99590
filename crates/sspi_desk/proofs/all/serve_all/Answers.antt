use Rattle.std.proofs.Common.{◌≡◌, ◌+◌, ◌++◌, ◌∷◌, [], take, subst, sym, ap, ◌∙◌}
use Rattle.std.proofs.lemmas.List.{take_more}
use Rattle.sspi_credssp.specs.Context.{either}
use Rattle.sspi_desk.specs.Desk.{Serves}
use Rattle.sspi_desk.proofs.Sessions.{ServesAll-more}
use Rattle.sspi_desk.proofs.all.serve_all.Goals as goal

pub loop-call-preserved : goal.loop-call-preserved
loop-call-preserved g c =
    let call = c.call-item.result in
    let calls = c.args.calls.now in
    let at = c.loop-call.call-index in
    let one_more : take (at + 1) calls ≡ take at calls ++ call ∷ [] =
    take_more calls at call c.loop-call-test.true ∙ ap (λ x. take at calls ++ x ∷ []) (sym c.call-item.is) in
    let serves = subst (λ bytes. Serves (either g.N.Mechanism.REQUESTS g.N.Mechanism.meaning g.K.Mechanism.meaning)
    g.C.CredentialsProxy.meaning call.session bytes c.serve-answer.result c.loop-call.desk c.serve-answer.new.self)
    c.as_slice.ensures c.serve-answer.ensures in
    record {
      room = rw c.push_reserved.ensures.capacity c.loop-call.invariant.room;
      served = rw (one_more, c.push_reserved.ensures.items)
          (ServesAll-more (either g.N.Mechanism.REQUESTS g.N.Mechanism.meaning g.K.Mechanism.meaning) g.C.CredentialsProxy.meaning
          (take at calls) c.loop-call.answers.items call
          c.serve-answer.result c.args.desk.now c.loop-call.desk c.serve-answer.new.self c.loop-call.invariant.served serves);
    }
