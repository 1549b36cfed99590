-- The line with the outcome of an end over a channel.
use Rattle.std.specs.Prelude.{ℕ, ◌+◌, ◌/◌, ◌%◌, ◌==◌, ◌||◌, nat_lt, List, [], ◌∷◌, ◌++◌, codes}
use Rattle.std.specs.Prelude.{decimal, Option, None, Some, Result, Ok, Err}
use Rattle.std.specs.Prelude.{if◌then◌else◌}
use Rattle.std.specs.List.{flat_map}
use Rattle.sspi_names.specs.Name.{inner_of}
use Rattle.sspi_report.specs.Names.{fault_name}
use Rattle.sspi_report.specs.Report.{report_text}
use Rattle.sspi_tsreq.specs.declared.early.EarlyUserAuthResult.{EarlyUserAuthResult}
use Rattle.sspi_tsreq.specs.declared.early.EarlyUserAuthResult.TheVariants.{Success, AccessDenied}
use Rattle.sspi_channel.specs.declared.answer.ChannelError.{ChannelError}
use Rattle.sspi_channel.specs.declared.answer.ChannelError.TheVariants as channel
use Rattle.sspi_channel.specs.declared.answer.Connected.{Connected}
use Rattle.sspi_channel.specs.declared.answer.Served.{Served}

abbrev pub with_line_feed : List ℕ → List ℕ
with_line_feed text = text ++ 10 ∷ []

-- ---- names

-- a hex digit in lower case
abbrev pub digit : ℕ → ℕ
digit n = if nat_lt n 10 then 48 + n else 87 + n

-- a control character of ASCII as a backslash, an x and its number, any other octet as it is
abbrev pub shown_octet : ℕ → List ℕ
shown_octet b = if nat_lt b 32 || (b == 127) then 92 ∷ 120 ∷ digit (b / 16) ∷ digit (b % 16) ∷ []
    else b ∷ []

abbrev pub shown : List ℕ → List ℕ
shown text = flat_map shown_octet text

-- ---- lines

abbrev pub early_part : Option EarlyUserAuthResult → List ℕ
early_part None = []
early_part (Some Success) = codes " early=success"
early_part (Some AccessDenied) = codes " early=denied"

abbrev pub scenario_text : ℕ → List ℕ
scenario_text line = with_line_feed (codes "error: scenario line " ++ decimal line)

abbrev pub early_text : List ℕ → List ℕ
early_text kind = with_line_feed (codes "early read " ++ kind)

-- the line of a delegation is the last one of its report
abbrev pub error_text : ChannelError → List ℕ
error_text (channel.Scenario line) = scenario_text line
error_text (channel.Delegate error) = report_text [] (Err error)
error_text (channel.Early kind) = early_text (fault_name kind)
error_text channel.ReadFault = with_line_feed (codes "error: read")
error_text channel.WriteFault = with_line_feed (codes "error: write")
error_text channel.InsufficientMemory = with_line_feed (codes "error: memory")

-- how many messages of the client the server took, and what precedes the name
abbrev pub head : ℕ → List ℕ
head rounds = codes "ok " ++ decimal rounds ++ codes " user="

abbrev pub serve_line : Result Served ChannelError → List ℕ
serve_line (Ok served) =
    with_line_feed
    ((head served.delegation.rounds ++ shown (inner_of served.delegation.credentials.username)) ++
    early_part served.told)
serve_line (Err error) = error_text error

abbrev pub connect_line : Result Connected ChannelError → List ℕ
connect_line (Ok connected) = with_line_feed (codes "ok " ++ decimal connected.rounds ++
    early_part connected.heard)
connect_line (Err error) = error_text error
