-- The exit status of an end over a channel.
use Rattle.std.specs.Prelude.{ℕ, Option, None, Some, Result, Ok, Err}
use Rattle.sspi_tsreq.specs.declared.early.EarlyUserAuthResult.{EarlyUserAuthResult}
use Rattle.sspi_tsreq.specs.declared.early.EarlyUserAuthResult.TheVariants.{Success, AccessDenied}
use Rattle.sspi_channel.specs.declared.answer.ChannelError.{ChannelError}
use Rattle.sspi_channel.specs.declared.answer.ChannelError.TheVariants as channel
use Rattle.sspi_channel.specs.declared.answer.Connected.{Connected}
use Rattle.sspi_channel.specs.declared.answer.Served.{Served}

-- 0, except for a user who may not log on
abbrev pub early_status : Option EarlyUserAuthResult → ℕ
early_status None = 0
early_status (Some Success) = 0
early_status (Some AccessDenied) = 1

abbrev pub error_status : ChannelError → ℕ
error_status (channel.Scenario line) = 2
error_status (channel.Delegate error) = 1
error_status (channel.Early kind) = 1
error_status channel.ReadFault = 3
error_status channel.WriteFault = 4
error_status channel.InsufficientMemory = 5

abbrev pub serve_status : Result Served ChannelError → ℕ
serve_status (Ok served) = early_status served.told
serve_status (Err error) = error_status error

abbrev pub connect_status : Result Connected ChannelError → ℕ
connect_status (Ok connected) = early_status connected.heard
connect_status (Err error) = error_status error
