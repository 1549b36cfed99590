-- When each answer of an end of a scenario comes, and what the channel has carried then.
use Rattle.std.specs.Prelude.{◌≡◌, ℕ, List, Option, Result, Ok, Err}
use Rattle.sspi_delegate.specs.declared.answer.Delegation.{Delegation}
use Rattle.sspi_live.specs.Channel.{Channel}
use Rattle.sspi_scenario.specs.declared.purpose.Purpose.{Purpose}
use Rattle.sspi_scenario.specs.declared.purpose.Purpose.TheVariants as purposes
use Rattle.sspi_scenario.specs.declared.scenario.Scenario.{Scenario}
use Rattle.sspi_scenario.specs.Scenario.{scenario_of}
use Rattle.sspi_tsreq.specs.declared.early.EarlyUserAuthResult.{EarlyUserAuthResult}
use Rattle.sspi_channel.specs.declared.answer.ChannelError.{ChannelError}
use Rattle.sspi_channel.specs.declared.answer.ChannelError.TheVariants as channel
use Rattle.sspi_channel.specs.declared.answer.Connected.{Connected}
use Rattle.sspi_channel.specs.declared.answer.Served.{Served}
use Rattle.sspi_channel.specs.Delegating.{Delegates, IsConnected, IsServed}
use Rattle.sspi_channel.specs.Early.{HearsIfAsked, TellsIfAsked, is_asked, told_by}

-- what was told after this delegation
abbrev pub served_with : Delegation → Result (Option EarlyUserAuthResult) ChannelError →
    Result Served ChannelError
served_with delegation (Ok told) = Ok (record { delegation = delegation; told = told })
served_with delegation (Err error) = Err error

-- what was heard after this many messages
abbrev pub connected_with : ℕ → Result (Option EarlyUserAuthResult) ChannelError →
    Result Connected ChannelError
connected_with rounds (Ok heard) = Ok (record { rounds = rounds; heard = heard })
connected_with rounds (Err error) = Err error

-- what a server tells after its delegation; after a failed one it tells nothing
abbrev pub TellsBehind : Scenario → Channel → Channel → Result Delegation ChannelError →
    Result Served ChannelError → Type 0
TellsBehind scenario before after (Ok delegation) result =
    (told : Result (Option EarlyUserAuthResult) ChannelError)
    × TellsIfAsked (told_by scenario.admit delegation.credentials.username) before.written
    after.written before.write_faults
    after.write_faults told
    × (after.left ≡ before.left) × (after.read_faults ≡ before.read_faults) ×
    (result ≡ served_with delegation told)
TellsBehind scenario before after (Err error) result = (after ≡ before) × (result ≡ Err error)

-- the same for what a client hears
abbrev pub HearsBehind : Scenario → Channel → Channel → Result ℕ ChannelError →
    Result Connected ChannelError → Type 0
HearsBehind scenario before after (Ok rounds) result =
    (heard : Result (Option EarlyUserAuthResult) ChannelError)
    × HearsIfAsked (is_asked scenario.admit) before.left after.left before.read_faults
    after.read_faults heard
    × (after.written ≡ before.written) × (after.write_faults ≡ before.write_faults) ×
    (result ≡ connected_with rounds heard)
HearsBehind scenario before after (Err error) result = (after ≡ before) × (result ≡ Err error)

-- The server of the scenario ran over the channel, and told the early result after its delegation.
pub record ServesAs (scenario : Scenario) (before after : Channel)
    (result : Result Served ChannelError) : Type 0 where
  -- the outcome of the delegation, and the channel then
  pub delegated : Result Delegation ChannelError
  pub now : Channel
  pub delegates : Delegates (IsServed scenario) before now delegated
  pub tells : TellsBehind scenario now after delegated result

pub record ConnectsAs (scenario : Scenario) (before after : Channel)
    (result : Result Connected ChannelError) : Type 0 where
  pub delegated : Result ℕ ChannelError
  pub now : Channel
  pub delegates : Delegates (IsConnected scenario) before now delegated
  pub hears : HearsBehind scenario now after delegated result

-- The outcome of a text: that of its end; or it is no scenario for this, or there was no memory to
-- read it, and the channel is as it was.
pub data ComesOf {X : Type 0} (purpose : Purpose) (text : List ℕ) (Runs : Scenario → Channel →
    Channel → Result X ChannelError → Type 0)
    (before after : Channel) (result : Result X ChannelError) : Type 0 where
  of_a_scenario : (scenario : Scenario) → scenario_of purpose text ≡ Ok scenario →
      Runs scenario before after result →
      ComesOf purpose text Runs before after result
  of_none : (line : ℕ) → scenario_of purpose text ≡ Err line → after ≡ before →
      result ≡ Err (channel.Scenario line) →
      ComesOf purpose text Runs before after result
  without_memory : after ≡ before → result ≡ Err channel.InsufficientMemory →
      ComesOf purpose text Runs before after result

abbrev pub ServesText : List ℕ → Channel → Channel → Result Served ChannelError → Type 0
ServesText text before after result = ComesOf purposes.Serve text ServesAs before after result

abbrev pub ConnectsText : List ℕ → Channel → Channel → Result Connected ChannelError → Type 0
ConnectsText text before after result = ComesOf purposes.Connect text ConnectsAs before after result
