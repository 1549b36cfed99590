-- The end of a scenario over a channel, up to the end of its delegation.
use Rattle.std.specs.Prelude.{◌≡◌, ℕ, ◌≤◌, ◌==◌, not, Bool, true, false, List, length, Option}
use Rattle.std.specs.Prelude.{Result, Ok, Err}
use Rattle.sspi_credssp.specs.declared.turn.End.TheVariants.{Client, Server}
use Rattle.sspi_credssp.specs.declared.turn.Turn.{Turn}
use Rattle.sspi_credssp.specs.Ends.{ClientView, IsFreshClient, IsFreshServer, ServerView}
use Rattle.sspi_credssp.specs.Table.{TableView, table_meaning}
use Rattle.sspi_mech.specs.PlainKdc.{PlainKdcState}
use Rattle.sspi_delegate.specs.declared.answer.Delegation.{Delegation}
use Rattle.sspi_delegate.specs.declared.answer.DelegateError.{DelegateError}
use Rattle.sspi_delegate.specs.declared.answer.DelegateError.TheVariants as errors
use Rattle.sspi_delegate.specs.Headline.{calls_of_kdc}
use Rattle.sspi_delegate.specs.History.{KdcStays, ProxyStays, ServerPast}
use Rattle.sspi_live.specs.Answers.{Connects, IsDue, Serves}
use Rattle.sspi_live.specs.Channel.{Channel}
use Rattle.sspi_live.specs.Fresh.{ConnectedFresh, ServedFresh}
use Rattle.sspi_live.specs.Pasts.{ConnectPast}
use Rattle.sspi_live.specs.Sides.{AreOf, BeginsItself}
use Rattle.sspi_scenario.specs.declared.scenario.Scenario.{Scenario}
use Rattle.sspi_program.specs.Ends.{PlainContext, IsClientOf, IsServerOf, kdc_in}
use Rattle.sspi_program.specs.Exchange.{around, kdc_faults, plain_meaning, told_replies}
use Rattle.sspi_channel.specs.declared.answer.ChannelError.{ChannelError}
use Rattle.sspi_channel.specs.declared.answer.ChannelError.TheVariants as channel
use Rattle.sspi_channel.specs.declared.counted.Counted.{Counted}

-- the state of a counted source and a counted sink at one moment
abbrev pub counted_channel : {S W : Type 0} → (S → Option (List ℕ)) → (W → Option (List ℕ)) →
    Counted S → Counted W → Channel
counted_channel left written source sink =
    record {
      left = left source.inner;
      read_faults = source.faults;
      written = written sink.inner;
      write_faults = sink.faults;
    }

-- ---- the ends

-- The server of a scenario, fresh, ran over the channel and gave this answer: all that `serve`
-- promises holds.
pub record IsServed (scenario : Scenario) (before after : Channel)
    (answer : Result Delegation DelegateError) : Type 0 where
  -- the server as it was made, and as it was left
  pub server : ServerView PlainContext TableView
  pub server2 : ServerView PlainContext TableView
  pub turns : List Turn
  pub fresh : IsFreshServer server
  pub named : IsServerOf scenario server
  pub serves : Serves scenario.turns before after answer turns
  pub within : length turns ≤ scenario.turns
  pub whose : AreOf Server turns
  pub history : ServerPast plain_meaning table_meaning server answer turns server2
  pub shown : ServedFresh plain_meaning table_meaning server answer turns server2
  pub proxy : ProxyStays table_meaning server.proxy server2.proxy

-- The same for the client of a scenario and its KDC, and for all that `connect` promises.
pub record IsConnected (scenario : Scenario) (before after : Channel)
    (answer : Result ℕ DelegateError) : Type 0 where
  pub client : ClientView PlainContext
  pub client2 : ClientView PlainContext
  pub kdc2 : PlainKdcState
  pub turns : List Turn
  pub fresh : IsFreshClient client
  pub named : IsClientOf scenario client
  pub connects : Connects scenario.turns before after answer turns
  pub within : length turns ≤ scenario.turns
  pub whose : AreOf Client turns × BeginsItself turns
  pub history : ConnectPast plain_meaning (calls_of_kdc around) (IsDue Client turns before after)
      client (kdc_in scenario) answer turns
      client2 kdc2
  pub shown : ConnectedFresh plain_meaning (calls_of_kdc around) (IsDue Client turns before after)
      client (kdc_in scenario) answer turns
      client2 kdc2
  pub kdc : KdcStays told_replies kdc_faults (kdc_in scenario) kdc2

-- ---- what becomes of an answer

-- a failed channel failed in a write, or otherwise in a read
abbrev pub error_by : DelegateError → Bool → ChannelError
error_by errors.LinkFault true = channel.WriteFault
error_by errors.LinkFault false = channel.ReadFault
error_by errors.InsufficientMemory write_failed = channel.InsufficientMemory
error_by error write_failed = channel.Delegate error

abbrev pub by_fault : {X : Type 0} → Result X DelegateError → Bool → Result X ChannelError
by_fault (Ok x) write_failed = Ok x
by_fault (Err error) write_failed = Err (error_by error write_failed)

-- the count of failed writes changed
abbrev pub write_failed : Channel → Channel → Bool
write_failed before after = not (after.write_faults == before.write_faults)

-- the outcome of the delegation; or there was no memory for the end, and the channel is as it was
pub data Delegates {X : Type 0} (Ran : Channel → Channel → Result X DelegateError →
    Type 0) (before after : Channel)
    (result : Result X ChannelError) : Type 0 where
  ran : (answer : Result X DelegateError) → Ran before after answer →
      result ≡ by_fault answer (write_failed before after) →
      Delegates Ran before after result
  unmade : after ≡ before → result ≡ Err channel.InsufficientMemory →
      Delegates Ran before after result
