use Rattle.std.proofs.Common.{refl, subst, sym}
use Rattle.sspi_credssp.specs.Ends.{ClientView, IsFreshClient, ServerView, IsFreshServer}
use Rattle.sspi_credssp.specs.Table.{TableView}
use Rattle.sspi_delegate.specs.Headline.{IsFresh}
use Rattle.sspi_program.specs.Ends.{PlainContext, IsClientOf, IsServerOf}
use Rattle.sspi_program.proofs.words.play.hand_out.Goals as goal

pub returns-clause-play : goal.returns-clause-play
returns-clause-play c ends =
    let s = c.args.scenario in
    let client = c.deref_mut.result.now in
    let server = c.deref_mut-2.result.now in
    let client_fresh = subst (λ (a : ClientView PlainContext). IsFreshClient a) (sym c.deref_mut.ensures.value) ends.client_fresh in
    let client_named = subst (λ (a : ClientView PlainContext). IsClientOf s a) (sym c.deref_mut.ensures.value) ends.client_named in
    let server_fresh = subst (λ (a : ServerView PlainContext TableView). IsFreshServer a) (sym c.deref_mut-2.ensures.value)
    ends.server_fresh in
    let server_named = subst (λ (a : ServerView PlainContext TableView). IsServerOf s a) (sym c.deref_mut-2.ensures.value)
    ends.server_named in
    let ensures = c.play-answer.ensures in
    let fresh : IsFresh client server = record { client_is = client_fresh; server_is = server_fresh } in
    record {
      client = client;
      server = server;
      fresh = fresh;
      client_named = client_named;
      server_named = server_named;
      link = rw c.new.ensures.items at c.new-2.ensures;
      policy = rw c.new-3.ensures.items at c.new-4.ensures;
      answer = c.play-answer.result;
      outcome_is = refl;
      accounts = rw (ends.kdc, c.as_slice.ensures) at ensures.accounts;
      plays = rw (ends.kdc, c.as_slice.ensures) at (ensures.plays fresh);
      agrees = ensures.agrees fresh;
      negotiates = ensures.negotiates fresh;
      kdc = rw ends.kdc at ensures.kdc;
      proxy = ensures.proxy;
    }
