-- The report of a play.
use Rattle.std.specs.Prelude.{ℕ, List, [], ◌++◌, Option, None, Some, codes, if◌then◌else◌}
use Rattle.std.specs.List.{flat_map}
use Rattle.hex.specs.Hex.{encode_lower}
use Rattle.sspi_types.specs.Errors.{error_kind_name}
use Rattle.sspi_names.specs.declared.identity.AuthIdentity.{AuthIdentity}
use Rattle.sspi_names.specs.Name.{inner_of}
use Rattle.sspi_tsreq.specs.declared.request.TsRequest.{TsRequest}
use Rattle.sspi_tsreq.specs.Spelling.{fits, spelled}
use Rattle.sspi_credssp.specs.declared.turn.Turn.{Turn}
use Rattle.sspi_credssp.specs.Turn.{message_of}
use Rattle.sspi_play.specs.declared.played.Ending.{Ending}
use Rattle.sspi_play.specs.declared.played.Ending.TheVariants.{Running, Refused, Unread}
use Rattle.sspi_play.specs.declared.played.Played.{Played}
use Rattle.sspi_report.specs.Entries.{line, mark}
use Rattle.sspi_report.specs.Names.{fault_name}

-- the line of a message after the mark of its end; none if it is too long to be written
abbrev pub message_text : List ℕ → TsRequest → List ℕ
message_text mark message = if fits message then line (mark ++ encode_lower (spelled message))
    else []

abbrev pub text_of : List ℕ → Option TsRequest → List ℕ
text_of mark None = []
text_of mark (Some message) = message_text mark message

-- the line of the message that a turn made, which may be an error of the server
abbrev pub turn_text : Turn → List ℕ
turn_text turn = text_of (mark turn.end) (message_of turn.outcome)

-- the state of an end
abbrev pub ending_text : Ending → List ℕ
ending_text Running = codes "running"
ending_text (Refused kind) = error_kind_name kind
ending_text (Unread kind) = codes "unread-" ++ fault_name kind

-- the name that the server opened
abbrev pub identity_text : Option AuthIdentity → List ℕ
identity_text None = codes "-"
identity_text (Some identity) = inner_of identity.username

abbrev pub standing_line : Played → List ℕ
standing_line played = line
    (codes "play client=" ++ ending_text played.client
    ++ codes " server=" ++ ending_text played.server
    ++ codes " identity=" ++ identity_text played.identity)

-- the lines of the turns, the first one first, and then that of the ends
unfoldable pub play_text : List Turn → Played → List ℕ
play_text turns played = flat_map turn_text turns ++ standing_line played
