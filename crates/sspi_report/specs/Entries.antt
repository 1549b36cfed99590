-- The lines of a log.
use Rattle.std.specs.Prelude.{ℕ, List, [], ◌∷◌, ◌++◌, if◌then◌else◌, codes}
use Rattle.std.specs.List.{flat_map}
use Rattle.std.specs.Str.{bytes_eq}
use Rattle.hex.specs.Hex.{encode_lower}
use Rattle.sspi_delegate.specs.declared.carried.Carried.{Carried}
use Rattle.sspi_credssp.specs.declared.turn.End.{End}
use Rattle.sspi_credssp.specs.declared.turn.End.TheVariants.{Client, Server}

-- a line ends with LF
abbrev pub line : List ℕ → List ℕ
line text = text ++ codes "\n"

-- what precedes a message of an end
abbrev pub mark : End → List ℕ
mark Client = codes "> "
mark Server = codes "< "

-- the line of what was delivered, if that is not empty and not what was sent
abbrev pub delivered_text : List ℕ → List ℕ → List ℕ
delivered_text sent [] = []
delivered_text sent (b ∷ bytes) = if bytes_eq (b ∷ bytes) sent then []
    else line (codes "! " ++ encode_lower (b ∷ bytes))

-- the lines of an entry, with bytes as two hex digits each
abbrev pub entry_text : Carried → List ℕ
entry_text entry = line (mark entry.from ++ encode_lower entry.sent) ++
    delivered_text entry.sent entry.delivered

-- the lines of a log, the first entry first
abbrev pub log_text : List Carried → List ℕ
log_text log = flat_map entry_text log
