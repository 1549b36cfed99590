use Rattle.sspi_credssp.proofs.ContextLaws.{lawful}
use Rattle.sspi_credssp.specs.Context.{either}
use Rattle.sspi_delegate.specs.Chain.{kdc_calls}
use Rattle.sspi_delegate.proofs.Alternating.{clients_others, servers_others, others_unrefused}
use Rattle.sspi_delegate.proofs.Chained.{client_past_chained, server_past_chained}
use Rattle.sspi_delegate.proofs.Exactness.{exactly}
use Rattle.sspi_delegate.proofs.Headline.{run_log, run_order, sealed_once, seals_after_proof, server_never_seals, exchanged_ok}
use Rattle.sspi_delegate.proofs.Heeding.{client_past_heeds, server_past_heeds}
use Rattle.sspi_delegate.proofs.HistoryRuns.{client_past_ran, server_past_ran, server_past_gives}
use Rattle.sspi_delegate.proofs.ProxyCalls.{ok_asked}
use Rattle.sspi_delegate.proofs.Refused.{past_refused}
use Rattle.sspi_delegate.proofs.exchange.delegate.Goals as goal

pub returns-clause-stays : goal.returns-clause-stays
returns-clause-stays g c = record {
  the_proxy_tells_what_it_told = c.rounds.ensures.proxy;
  the_kdc_tells_what_it_told = c.rounds.ensures.kdc;
  the_link_tells_what_it_told = c.rounds.ensures.told;
  the_link_fails_where_its_edits_say_so = c.rounds.ensures.failing;
  no_turns_are_spent_at_once = c.rounds.ensures.within.0;
  ok_comes_within_the_limit = c.rounds.ensures.within.1;
}

pub returns-clause-accounts : goal.returns-clause-accounts
returns-clause-accounts g c = record {
  turns_and_log_show_the_answer = c.rounds.ensures.cause c.clear.ensures;
  no_other_answer_fits = exactly _ _ _ _ _ _ _ (c.rounds.ensures.cause c.clear.ensures);
  client_turns_are_its_calls = c.rounds.ensures.client_history c.clear.ensures;
  server_turns_are_its_calls = c.rounds.ensures.server_history c.clear.ensures;
}

pub returns-clause-delegates : goal.returns-clause-delegates
returns-clause-delegates g c fresh =
    let m = either g.N.Mechanism.REQUESTS g.N.Mechanism.meaning g.K.Mechanism.meaning in
    let law = lawful _ _ g.N.Mechanism.meaning g.K.Mechanism.meaning g.met.N.Mechanism.laws g.met.K.Mechanism.laws in
    let k = kdc_calls g.D.Kdc.told g.D.Kdc.asked g.D.Kdc.faults in
    let turns = c.rounds.new.transcript.turns in
    let result = c.rounds.result in
    let cause = c.rounds.ensures.cause c.clear.ensures in
    let client_past = c.rounds.ensures.client_history c.clear.ensures in
    let server_past = c.rounds.ensures.server_history c.clear.ensures in
    let order = run_order _ _ _ _ _ _ _ cause in
    let client = client_past_ran m law k _ _ _ _ _ _ result fresh.client_is (clients_others turns order) client_past in
    let server = server_past_ran m law g.C.CredentialsProxy.meaning _ _ _ result fresh.server_is
    (others_unrefused _ (servers_others turns order)) server_past in
    let client_heeds = client_past_heeds m law k _ _ _ _ _ _ result fresh.client_is (clients_others turns order) client_past in
    let server_heeds = server_past_heeds m law g.C.CredentialsProxy.meaning _ _ _ result fresh.server_is
    (others_unrefused _ (servers_others turns order)) server_past in
    record {
      the_turns_are_a_run = record {
        order = order;
        entries = run_log _ _ _ _ _ _ _ cause;
        client_ran = client;
        server_ran = server;
        client_heeds = client_heeds;
        server_heeds = server_heeds;
      };
      credentials_are_sealed_at_most_once = sealed_once m _ _ turns client.each client.others server.each;
      the_client_seals_after_the_proof = seals_after_proof m _ _ _ client.each client_heeds;
      the_server_never_seals = server_never_seals m _ _ server.each;
      the_identity_is_what_was_opened_last =
          server_past_gives m law g.C.CredentialsProxy.meaning _ _ _ result server_past;
      both_proofs_came_before_ok = exchanged_ok m _ _ _ _ _ _ _ cause _ server.each;
      no_call_of_the_proxy_before_ok_was_to_fail =
          ok_asked m g.C.CredentialsProxy.meaning _ _ _ result turns _ _ _ _ fresh.server_is cause (servers_others turns order) server_past;
      the_client_has_the_context_of_its_chain = client_past_chained m k _ law fresh.client_is _ _ _ _ _ result
          (clients_others turns order) client_past;
      the_server_has_the_context_of_its_chain =
          server_past_chained m g.C.CredentialsProxy.meaning _ law fresh.server_is _ _ result
          (others_unrefused _ (servers_others turns order)) server_past;
      a_refusal_has_its_cause =
          past_refused m law g.C.CredentialsProxy.meaning k _ _ _ _ _ _ _ _ _ result
          fresh.client_is fresh.server_is (clients_others turns order) (servers_others turns order) client_past server_past;
      accounts = returns-clause-accounts g c;
      stays = returns-clause-stays g c;
    }
