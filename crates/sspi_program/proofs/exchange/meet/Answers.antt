use Rattle.std.proofs.Common.{◌≡◌, ℕ, List, [], Some, refl, ap, subst, sym}
use Rattle.sspi_delegate.specs.Link.{MemoryLinkView, FollowsEdits, StaysTold}
use Rattle.sspi_delegate.specs.declared.edit.Edit.{Edit}
use Rattle.sspi_delegate.specs.Headline.{IsFresh}
use Rattle.sspi_delegate.proofs.Alternating.{servers_others}
use Rattle.sspi_delegate.proofs.Histories.{server_past_history}
use Rattle.sspi_mech.specs.Kerberos.{kerberos_meaning}
use Rattle.sspi_mech.specs.KerberosLaws.{kerberos_laws}
use Rattle.sspi_mech.specs.Ntlm.{ntlm_meaning}
use Rattle.sspi_mech.specs.NtlmLaws.{ntlm_laws}
use Rattle.sspi_credssp.proofs.ContextLaws.{lawful}
use Rattle.sspi_tsreq.specs.declared.mode.CredSspMode.{CredSspMode}
use Rattle.sspi_credssp.specs.Ends.{ClientSettings, ClientView, IsFreshClient, ServerView, IsFreshServer}
use Rattle.sspi_credssp.specs.Table.{TableView, table_meaning}
use Rattle.sspi_completeness.specs.Matching.{ComesToOkIn}
use Rattle.sspi_credssp.specs.Exchange.{delegated_as}
use Rattle.sspi_completeness.proofs.ThreeTurns.{ok_three}
use Rattle.sspi_completeness.proofs.PlainSettled.{comes_to_ok, cut_short, settled_plainly}
use Rattle.sspi_completeness.proofs.Settling.{calm_by, Settled}
use Rattle.sspi_program.specs.Ends.{PlainContext, IsClientOf, IsServerOf}
use Rattle.sspi_program.specs.Exchange.{plain_meaning, told_replies, kdc_asked, kdc_faults}
use Rattle.sspi_program.specs.Outcome.{user_identity, messages_in, IsMatching}
use Rattle.sspi_program.proofs.Matching.{ends_match, match_messages, ntlm_server, unedited_link, calm_proxy}
use Rattle.sspi_program.proofs.exchange.meet.Goals as goal

some_edits : (edits edits2 : List Edit) → Some edits ≡ Some edits2 → edits ≡ edits2
some_edits edits edits2 is = cc

pub returns-clause-exchange : goal.returns-clause-exchange
returns-clause-exchange c ends link_is held =
    let s = c.args.scenario in
    let client = c.deref_mut.result.now in
    let server = c.deref_mut-2.result.now in
    let client_fresh = subst (λ (a : ClientView PlainContext). IsFreshClient a) (sym c.deref_mut.ensures.value) ends.client_fresh in
    let client_named = subst (λ (a : ClientView PlainContext). IsClientOf s a) (sym c.deref_mut.ensures.value) ends.client_named in
    let server_fresh = subst (λ (a : ServerView PlainContext TableView). IsFreshServer a) (sym c.deref_mut-2.ensures.value)
    ends.server_fresh in
    let server_named = subst (λ (a : ServerView PlainContext TableView). IsServerOf s a) (sym c.deref_mut-2.ensures.value)
    ends.server_named in
    let made = c.delegate-answer.new in
    let edits = s.edit in
    let answer = c.delegate-answer.result in
    let ensures = c.delegate-answer.ensures in
    let fresh : IsFresh client server = record { client_is = client_fresh; server_is = server_fresh } in
    let delegates = ensures.delegates fresh in
    let stays = ensures.stays in
    let told : StaysTold (Some edits) (Some made.link.edits) [] made.link.log =
    subst (λ (link : MemoryLinkView). StaysTold (Some link.edits) (Some made.link.edits) link.log made.link.log) link_is
    stays.the_link_tells_what_it_told in
    let same : made.link.edits ≡ edits = some_edits made.link.edits edits told.same in
    let server_history = server_past_history plain_meaning table_meaning server made.server _ answer
    delegates.accounts.server_turns_are_its_calls in
    let laws = lawful 0 2 ntlm_meaning kerberos_meaning ntlm_laws kerberos_laws in
    let kdc = c.args.ends.kdc in
    let settles : (matching : IsMatching s) →
    Settled (messages_in s matching) s.turns (delegated_as client.settings.delegation (user_identity s)) answer =
    λ matching. subst (λ (n : ℕ). Settled n s.turns (delegated_as client.settings.delegation (user_identity s)) answer)
    (match_messages s client server kdc client_named server_named ends.kdc held matching)
    (settled_plainly told_replies kdc_asked kdc_faults laws table_meaning client server kdc client_fresh server_fresh
    (ends_match s client server kdc client_named server_named ends.kdc held matching) _ _ _ _ _ s.turns made.client made.server _ _ _ _ _
    (unedited_link s c.args.link made.link.log made.link.faults link_is matching)
    delegates.accounts.turns_and_log_show_the_answer stays.the_link_tells_what_it_told stays.the_link_fails_where_its_edits_say_so
    delegates.accounts.client_turns_are_its_calls server_history
    (calm_by _ _ _ (calm_proxy s server made.server.proxy.faults server_named matching) stays.the_proxy_tells_what_it_told.calm)
    delegates.the_identity_is_what_was_opened_last) in
    record {
      exchange = record {
        client = client;
        server = server;
        fresh = fresh;
        client_named = client_named;
        server_named = server_named;
        edits = same;
        follows = subst (λ (these : List Edit). FollowsEdits these made.link.log) same (told.follows tt);
        policy = rw c.new.ensures.items at c.new-2.ensures;
        answer = answer;
        outcome_is = refl;
        delegates = rw (link_is, ends.kdc) at delegates;
      };
      comes = record {
        three = λ matching. ok_three kerberos_meaning table_meaning _ _ _ _ _ _ _ _ _
            delegates.accounts.turns_and_log_show_the_answer (ntlm_server s server server_named matching) fresh.server_is
            (servers_others _ delegates.the_turns_are_a_run.order)
            delegates.both_proofs_came_before_ok server_history;
        comes = λ matching enough. subst (λ (mode : CredSspMode). ComesToOkIn (messages_in s matching)
            (delegated_as mode (user_identity s)) answer) (ap (λ (s : ClientSettings). s.delegation) client_named)
            (comes_to_ok (messages_in s matching) s.turns (delegated_as client.settings.delegation (user_identity s)) answer enough
            (settles matching));
        short = λ matching few. cut_short (messages_in s matching) s.turns
            (delegated_as client.settings.delegation (user_identity s)) answer few stays.ok_comes_within_the_limit (settles matching);
      };
    }
