use Rattle.sspi_mech.specs.Kerberos.{kerberos_meaning}
use Rattle.sspi_mech.specs.KerberosLaws.{kerberos_laws}
use Rattle.sspi_mech.specs.Ntlm.{ntlm_meaning}
use Rattle.sspi_mech.specs.NtlmLaws.{ntlm_laws}
use Rattle.sspi_credssp.proofs.ContextLaws.{lawful}
use Rattle.sspi_credssp.specs.Context.{either}
use Rattle.sspi_delegate.proofs.Alternating.{servers_others}
use Rattle.sspi_delegate.proofs.Histories.{server_past_history}
use Rattle.sspi_completeness.proofs.PlainSettled.{comes_to_ok, cut_short, settled_plainly}
use Rattle.sspi_completeness.proofs.Settling.{calm_by}
use Rattle.sspi_completeness.proofs.ThreeTurns.{ok_three}
use Rattle.sspi_completeness.proofs.plain.delegate_plainly.Goals as goal

pub returns-clause-three : goal.returns-clause-three
returns-clause-three g c ntlm fresh =
    let made = c.delegate.ensures.delegates fresh in
    ok_three kerberos_meaning g.C.CredentialsProxy.meaning _ _ _ _ _ _ _ _ _
    made.accounts.turns_and_log_show_the_answer ntlm fresh.server_is
    (servers_others _ made.the_turns_are_a_run.order)
    made.both_proofs_came_before_ok (server_past_history (either 0 ntlm_meaning kerberos_meaning) g.C.CredentialsProxy.meaning _ _ _ _
    made.accounts.server_turns_are_its_calls)

pub returns-clause-matched : goal.returns-clause-matched
returns-clause-matched g c matching calm =
    let laws = lawful 0 2 ntlm_meaning kerberos_meaning ntlm_laws kerberos_laws in
    let fresh = calm.fresh in
    let made = c.delegate.ensures.delegates fresh in
    let stays = c.delegate.ensures.stays in
    let settled = settled_plainly g.D.Kdc.told g.D.Kdc.asked g.D.Kdc.faults laws g.C.CredentialsProxy.meaning
    c.args.client.now c.args.server.now c.args.kdc.now fresh.client_is fresh.server_is matching _ _ _ _ _ c.args.limit c.delegate.new.client
    c.delegate.new.server _ _ _ _ _ calm.link made.accounts.turns_and_log_show_the_answer stays.the_link_tells_what_it_told
    stays.the_link_fails_where_its_edits_say_so
    made.accounts.client_turns_are_its_calls (server_past_history
    (either 0 ntlm_meaning kerberos_meaning) g.C.CredentialsProxy.meaning _ _ _ _
    made.accounts.server_turns_are_its_calls)
    (calm_by _ _ _ calm.proxy stays.the_proxy_tells_what_it_told.calm) made.the_identity_is_what_was_opened_last in
    record {
      comes = λ enough. comes_to_ok _ _ _ _ enough settled;
      short = λ few. cut_short _ _ _ _ few stays.ok_comes_within_the_limit settled;
    }
