-- Why a text is not a scenario, in words.
use Rattle.std.specs.Prelude.{ℕ, ◌-◌, ◌==◌, ◌&&◌, nat_le, not, Bool, true, false, List, [], ◌∷◌}
use Rattle.std.specs.Prelude.{◌++◌, length, codes, decimal}
use Rattle.std.specs.Prelude.{Option, Some, None, Result, Ok, Err, if◌then◌else◌}
use Rattle.std.specs.List.{slice_get, list_any, list_all}
use Rattle.std.specs.Str.{bytes_eq, is_utf8}
use Rattle.sspi_scenario.specs.declared.key.Key.{Key}
use Rattle.sspi_scenario.specs.declared.key.Key.TheVariants as key
use Rattle.sspi_scenario.specs.declared.purpose.Purpose.{Purpose}
use Rattle.sspi_scenario.specs.declared.scenario.Scenario.{Scenario}
use Rattle.sspi_scenario.specs.Keys.{key_named}
use Rattle.sspi_scenario.specs.Lines.{lines_of, before_space, after_space}
use Rattle.sspi_scenario.specs.Purposes.{takes}
use Rattle.sspi_scenario.specs.Reading.{text_limit}
use Rattle.sspi_scenario.specs.Scenario.{scenario_of}
use Rattle.sspi_scenario.specs.Table.{row}

-- ---- the value

abbrev pub wanted : Key → List ℕ
wanted key.Mode = codes "neither ntlm nor negotiate"
wanted key.ClientVersion = codes "no number from 0 to 4294967295 without leading zeros"
wanted key.ServerVersion = codes "no number from 0 to 4294967295 without leading zeros"
wanted key.ProxyFail = codes "no number from 0 to 4294967295 without leading zeros"
wanted key.Turns = codes "no number from 0 to 4294967295 without leading zeros"
wanted key.ClientLeast = codes "no number from 0 to 4294967295 without leading zeros"
wanted key.ServerLeast = codes "no number from 0 to 4294967295 without leading zeros"
wanted key.User = codes "a name with two \\, or with a \\ and an @"
wanted key.Admit = codes "a name with two \\, or with a \\ and an @"
wanted key.Account =
    codes "no name, space and password, or a name with two \\, or with a \\ and an @"
wanted key.Key = codes "no even number of hex digits"
wanted key.ServerKey = codes "no even number of hex digits"
wanted key.Keytab = codes "no even number of hex digits"
wanted key.Nonce = codes "not 64 hex digits"
wanted key.Ticket = codes "not 64 hex digits"
wanted key.Challenge = codes "not 16 hex digits"
wanted key.Delegation = codes "neither with nor less"
wanted key.ClientProtocol = codes "neither ntlm nor kerberos"
wanted key.ServerProtocol = codes "neither ntlm nor kerberos"
wanted key.Accounts = codes "neither own nor none"
wanted key.Kdc = codes "no realm, space and URL"
wanted key.KdcAnswer = codes "none of usual, fail, and code with a number up to 255"
wanted key.Edit =
    codes "no number, space, and drop, cut, set, add, give, again or fail with its argument"
wanted key.Deliver = codes "no client or server, space and hex"
wanted text = codes "no text"

-- a value of this key may be shown: a number, or one of a few words
abbrev pub is_shown : Key → Bool
is_shown key.Mode = true
is_shown key.ClientVersion = true
is_shown key.ServerVersion = true
is_shown key.Delegation = true
is_shown key.ClientProtocol = true
is_shown key.ServerProtocol = true
is_shown key.KdcAnswer = true
is_shown key.Accounts = true
is_shown key.ProxyFail = true
is_shown key.Turns = true
is_shown key.ClientLeast = true
is_shown key.ServerLeast = true
is_shown other = false

abbrev pub is_plain_byte : ℕ → Bool
is_plain_byte byte = nat_le 32 byte && nat_le byte 126

-- short, and only printable ASCII
abbrev pub is_plain : List ℕ → Bool
is_plain value = nat_le (length value) 40 && list_all is_plain_byte value

abbrev pub quoted : List ℕ → List ℕ
quoted value = codes ": \"" ++ value ++ codes "\""

abbrev pub value_text : Key → List ℕ → List ℕ
value_text k value = if is_shown k && is_plain value then wanted k ++ quoted value else wanted k

-- ---- the line

abbrev pub is_there : {A : Type 0} → Option A → Bool
is_there None = false
is_there (Some x) = true

-- a value fits the grammar of its key
abbrev pub value_is_good : Key → List ℕ → Bool
value_is_good k value = is_there ((row k).value value)

abbrev pub key_text : Purpose → Key → List ℕ → List ℕ → List ℕ
key_text purpose k name value =
    if not (takes purpose k) then name ++ codes ": no key of this word"
    else if value_is_good k value then name ++ codes ": an earlier line has or excludes this key"
    else name ++ codes ": " ++ value_text k value

abbrev pub fault_with : Purpose → List ℕ → List ℕ → Option Key → List ℕ
fault_with purpose name value None = codes "no key of a scenario"
fault_with purpose name value (Some k) = key_text purpose k name value

abbrev pub fault_text : Purpose → List ℕ → List ℕ
fault_text purpose line = fault_with purpose (before_space line) (after_space line)
    (key_named (before_space line))

abbrev pub line_text : Purpose → ℕ → Option (List ℕ) → List ℕ
line_text purpose number None = []
line_text purpose number (Some line) = codes "line " ++
    (decimal number ++ (codes ": " ++ fault_text purpose line))

-- the line of this number, from 1
unfoldable pub numbered_text : Purpose → ℕ → List ℕ → List ℕ
numbered_text purpose number text =
    if is_utf8 text then line_text purpose number (slice_get (lines_of text) (number - 1)) else []

-- ---- the whole text

-- some line has this key
abbrev pub names_key : List (List ℕ) → List ℕ → Bool
names_key lines name = list_any (λ line. bytes_eq (before_space line) name) lines

abbrev pub missing_part : List ℕ → List ℕ → List ℕ
missing_part text name = if names_key (lines_of text) name then [] else codes " " ++ name

unfoldable pub missing_text : List ℕ → List ℕ
missing_text text =
    codes "text: missing keys:" ++ missing_part text (codes "mode") ++
    missing_part text (codes "user") ++
    missing_part text (codes "password") ++ missing_part text (codes "key")

unfoldable pub whole_text : List ℕ → List ℕ
whole_text text =
    if nat_le (length text) text_limit
    then (if is_utf8 text then missing_text text else codes "text: not UTF-8")
    else codes "text: more than 1048576 bytes"

-- the number of the line to blame, 0 if there is none; `None` for a scenario
abbrev pub fault_line : Result Scenario ℕ → Option ℕ
fault_line (Ok scenario) = None
fault_line (Err number) = Some number

abbrev pub refusal_text : Purpose → List ℕ → ℕ → List ℕ
refusal_text purpose text number =
    if number == 0 then whole_text text else numbered_text purpose number text

abbrev pub reason_by : Purpose → List ℕ → Option ℕ → List ℕ
reason_by purpose text None = []
reason_by purpose text (Some number) = refusal_text purpose text number

-- why a text is not a scenario for this purpose; empty if it is one
unfoldable pub reason_text : Purpose → List ℕ → List ℕ
reason_text purpose text = reason_by purpose text (fault_line (scenario_of purpose text))
