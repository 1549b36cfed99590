-- What the word `play` promises.
use Rattle.std.specs.Prelude.{◌≡◌, ℕ, List, [], None, Result, Ok}
use Rattle.sspi_mech.specs.Kerberos.{kerberos_meaning}
use Rattle.sspi_mech.specs.Ntlm.{ntlm_meaning}
use Rattle.sspi_credssp.specs.Ends.{ClientView, ServerView}
use Rattle.sspi_credssp.specs.Table.{TableView, table_meaning}
use Rattle.sspi_delegate.specs.declared.answer.DelegateError.{DelegateError}
use Rattle.sspi_delegate.specs.Turns.{client_end, server_end}
use Rattle.sspi_delegate.specs.Headline.{calls_of_kdc}
use Rattle.sspi_delegate.specs.Link.{MemoryLinkView}
use Rattle.sspi_delegate.specs.Headline.{IsFresh}
use Rattle.sspi_delegate.specs.History.{KdcStays, ProxyStays}
use Rattle.sspi_play.specs.Agreement.{AgreesIfFaithful}
use Rattle.sspi_play.specs.Kept.{identity_of}
use Rattle.sspi_play.specs.Negotiated.{NegotiatesIfFaithful}
use Rattle.sspi_play.specs.Played.{both, Accounts, IsPlay}
use Rattle.sspi_play.specs.declared.played.Played.{Played}
use Rattle.sspi_scenario.specs.declared.purpose.Purpose.TheVariants as purposes
use Rattle.sspi_scenario.specs.declared.scenario.Scenario.{Scenario}
use Rattle.sspi_scenario.specs.Scenario.{scenario_of}
use Rattle.sspi_program.specs.declared.record.Record.{Record}
use Rattle.sspi_program.specs.declared.record.RunOutcome.TheVariants as outcomes
use Rattle.sspi_program.specs.Ends.{PlainContext, IsClientOf, IsServerOf, kdc_in}
use Rattle.sspi_program.specs.Exchange.{plain_meaning, around, told_replies, kdc_faults}
use Rattle.sspi_program.specs.Status.{IsUnlessFault}

-- a link that carried nothing, and would change nothing
abbrev pub no_link : MemoryLinkView
no_link = record { log = []; edits = []; faults = 0; most = None }

-- The ends that the scenario names took its deliveries, and the client asked the KDC that it names.
-- All that `play` promises holds from these as they were made to what the record keeps.
pub record HasPlay (r : Record) : Type 0 where
  -- the ends as they were made
  pub client : ClientView PlainContext
  pub server : ServerView PlainContext TableView
  pub fresh : IsFresh client server
  pub client_named : IsClientOf r.scenario client
  pub server_named : IsServerOf r.scenario server
  pub link : r.link ≡ no_link
  -- nobody is admitted
  pub policy : r.policy ≡ []
  -- what `play` answered, and all that it promises about these ends
  pub answer : Result Played DelegateError
  pub outcome_is : r.outcome ≡ outcomes.Played answer
  pub accounts : Accounts plain_meaning table_meaning (calls_of_kdc around) r.scenario.deliver
      (both client server (kdc_in r.scenario) []) answer
      (both r.client.value r.server.value r.kdc r.transcript.turns)
  pub plays : IsPlay plain_meaning table_meaning (calls_of_kdc around) r.scenario.deliver
      (both client server (kdc_in r.scenario) []) answer
      (both r.client.value r.server.value r.kdc r.transcript.turns)
  pub agrees : AgreesIfFaithful plain_meaning (client_end r.client.value)
      (server_end r.server.value) r.transcript.turns
      (identity_of answer)
  pub negotiates : NegotiatesIfFaithful 0 ntlm_meaning kerberos_meaning (client_end r.client.value)
      (server_end r.server.value)
      server.settings.mode r.transcript.turns
  pub kdc : KdcStays told_replies kdc_faults (kdc_in r.scenario) r.kdc
  pub proxy : ProxyStays table_meaning server.proxy r.server.value.proxy

-- whatever is delivered, a play is not refused
abbrev pub PlayEnds : List ℕ → ℕ → Type 0
PlayEnds text status = (scenario : Scenario) → scenario_of purposes.Play text ≡ Ok scenario →
    IsUnlessFault 0 status
