use Rattle.std.proofs.Common.{◌∙◌, subst, sym}
use Rattle.sspi_credssp.specs.Ends.{IsFreshServer, ServerView}
use Rattle.sspi_credssp.specs.Table.{TableView}
use Rattle.sspi_program.specs.Ends.{IsServerOf, PlainContext}
use Rattle.sspi_channel.specs.Delegating.{ran}
use Rattle.sspi_channel.proofs.serving.delegate_to.Goals as goal

pub returns : goal.returns
returns g c =
    let server = c.deref_mut.result.now in
    let made = c.serve-answer.new in
    let ensures = c.serve-answer.ensures in
    let fresh = subst (λ (s : ServerView PlainContext TableView). IsFreshServer s) (sym c.deref_mut.ensures.value) c.in-Ok.ensures.fresh in
    ran c.serve-answer.result (record {
      server = server;
      server2 = made.server;
      turns = made.transcript.turns;
      fresh = fresh;
      named = subst (λ (s : ServerView PlainContext TableView). IsServerOf c.args.scenario.now s) (sym c.deref_mut.ensures.value)
          c.in-Ok.ensures.named;
      serves = ensures.answer;
      within = ensures.within;
      whose = ensures.whose;
      history = ensures.history;
      shown = ensures.fresh fresh;
      proxy = ensures.proxy;
    }) (c.without.ensures ∙ c.by_fault.ensures)
