-- What holds for an exchange that is kept.
use Rattle.std.specs.Prelude.{◌≡◌, ℕ, List, [], Option, Some, Result}
use Rattle.sspi_names.specs.declared.network.NetworkRequest.{NetworkRequest}
use Rattle.sspi_mech.specs.Meaning.{Meaning}
use Rattle.sspi_mech.specs.Kerberos.{kerberos_meaning}
use Rattle.sspi_mech.specs.Ntlm.{ntlm_meaning}
use Rattle.sspi_mech.specs.PlainKdc.{PlainKdcState, told_by}
use Rattle.sspi_mech.specs.declared.step.Reply.{Reply}
use Rattle.sspi_credssp.specs.Ends.{ClientView, ServerView}
use Rattle.sspi_credssp.specs.Context.{ContextSetting, either}
use Rattle.sspi_credssp.specs.Table.{TableView, table_meaning}
use Rattle.sspi_delegate.specs.declared.answer.Delegation.{Delegation}
use Rattle.sspi_delegate.specs.declared.answer.DelegateError.{DelegateError}
use Rattle.sspi_delegate.specs.declared.carried.Carried.{Carried}
use Rattle.sspi_delegate.specs.declared.edit.Edit.{Edit}
use Rattle.sspi_delegate.specs.Headline.{Around, around_by, parties, Delegates}
use Rattle.sspi_delegate.specs.Link.{MemoryLinkView, FollowsEdits}
use Rattle.sspi_delegate.specs.Headline.{IsFresh}
use Rattle.sspi_program.specs.Ends.{PlainContext, IsClientOf, IsServerOf, link_in, kdc_in}
use Rattle.sspi_program.specs.declared.record.Record.{Record}
use Rattle.sspi_program.specs.declared.record.RunOutcome.TheVariants.{Delegated}

-- what the context of either end means
abbrev pub plain_meaning : Meaning ContextSetting PlainContext
plain_meaning = either 0 ntlm_meaning kerberos_meaning

-- the KDC exposes its reply to each call
abbrev pub told_replies : PlainKdcState → Option (ℕ → NetworkRequest → Reply)
told_replies kdc = Some (told_by kdc.users kdc.script)

abbrev pub kdc_asked : PlainKdcState → ℕ
kdc_asked kdc = kdc.asked

abbrev pub kdc_faults : PlainKdcState → ℕ
kdc_faults kdc = kdc.faults

abbrev pub link_log : MemoryLinkView → List Carried
link_log link = link.log

abbrev pub told_edits : MemoryLinkView → Option (List Edit)
told_edits link = Some link.edits

abbrev pub link_faults : MemoryLinkView → ℕ
link_faults link = link.faults

abbrev pub around : Around TableView MemoryLinkView PlainKdcState
around = around_by table_meaning link_log told_edits link_faults told_replies kdc_asked kdc_faults

-- The ends that the scenario names met over the link that it names, and the client asked the KDC
-- that it names. All that `delegate` promises holds from these as they were made, with an empty
-- log, to what the record keeps.
pub record IsExchange (r : Record) : Type 0 where
  -- the ends as they were made
  pub client : ClientView PlainContext
  pub server : ServerView PlainContext TableView
  pub fresh : IsFresh client server
  pub client_named : IsClientOf r.scenario client
  pub server_named : IsServerOf r.scenario server
  -- the link has the scenario's edits
  pub edits : r.link.edits ≡ r.scenario.edit
  pub follows : FollowsEdits r.scenario.edit r.link.log
  -- nobody is admitted
  pub policy : r.policy ≡ []
  -- what `delegate` answered, and all that it promises about these ends
  pub answer : Result Delegation DelegateError
  pub outcome_is : r.outcome ≡ Delegated answer
  pub delegates : Delegates plain_meaning around
      (parties client server (link_in r.scenario) (kdc_in r.scenario) []) r.scenario.turns
      answer
      (parties r.client.value r.server.value r.link r.kdc r.transcript.turns)
