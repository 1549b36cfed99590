-- NTSTATUS codes, and their names.
use Rattle.std.specs.Prelude.{ℕ, List, [], ◌∷◌, ◌++◌, Option, Some, None, false, ◌==◌}
use Rattle.std.specs.Prelude.{if◌then◌else◌, codes}
use Rattle.std.specs.Fmt.{digits}

-- the codes that have a name here (ntstatus.h)
abbrev pub status_codes : List (List ℕ × ℕ)
status_codes =
    (codes "STATUS_SUCCESS", 0x00000000) ∷
    (codes "STATUS_NO_QUOTAS_FOR_ACCOUNT", 0x0000010d) ∷
    (codes "STATUS_NO_LOGON_SERVERS", 0xc000005e) ∷
    (codes "STATUS_NO_SUCH_LOGON_SESSION", 0xc000005f) ∷
    (codes "STATUS_NO_SUCH_PRIVILEGE", 0xc0000060) ∷
    (codes "STATUS_PRIVILEGE_NOT_HELD", 0xc0000061) ∷
    (codes "STATUS_INVALID_ACCOUNT_NAME", 0xc0000062) ∷
    (codes "STATUS_USER_EXISTS", 0xc0000063) ∷
    (codes "STATUS_NO_SUCH_USER", 0xc0000064) ∷
    (codes "STATUS_GROUP_EXISTS", 0xc0000065) ∷
    (codes "STATUS_NO_SUCH_GROUP", 0xc0000066) ∷
    (codes "STATUS_MEMBER_IN_GROUP", 0xc0000067) ∷
    (codes "STATUS_MEMBER_NOT_IN_GROUP", 0xc0000068) ∷
    (codes "STATUS_LAST_ADMIN", 0xc0000069) ∷
    (codes "STATUS_WRONG_PASSWORD", 0xc000006a) ∷
    (codes "STATUS_ILL_FORMED_PASSWORD", 0xc000006b) ∷
    (codes "STATUS_PASSWORD_RESTRICTION", 0xc000006c) ∷
    (codes "STATUS_LOGON_FAILURE", 0xc000006d) ∷
    (codes "STATUS_ACCOUNT_RESTRICTION", 0xc000006e) ∷
    (codes "STATUS_INVALID_LOGON_HOURS", 0xc000006f) ∷
    (codes "STATUS_INVALID_WORKSTATION", 0xc0000070) ∷
    (codes "STATUS_PASSWORD_EXPIRED", 0xc0000071) ∷
    (codes "STATUS_ACCOUNT_DISABLED", 0xc0000072) ∷
    (codes "STATUS_IO_TIMEOUT", 0xc00000b5) ∷
    (codes "STATUS_NOT_LOGON_PROCESS", 0xc00000ed) ∷
    (codes "STATUS_LOGON_SESSION_EXISTS", 0xc00000ee) ∷
    (codes "STATUS_BAD_LOGON_SESSION_STATE", 0xc0000104) ∷
    (codes "STATUS_LOGON_SESSION_COLLISION", 0xc0000105) ∷
    (codes "STATUS_INVALID_LOGON_TYPE", 0xc000010b) ∷
    (codes "STATUS_SPECIAL_ACCOUNT", 0xc0000124) ∷
    (codes "STATUS_TOKEN_ALREADY_IN_USE", 0xc000012b) ∷
    (codes "STATUS_LOGON_SERVER_CONFLICT", 0xc0000132) ∷
    (codes "STATUS_TIME_DIFFERENCE_AT_DC", 0xc0000133) ∷
    (codes "STATUS_MEMBER_NOT_IN_ALIAS", 0xc0000152) ∷
    (codes "STATUS_MEMBER_IN_ALIAS", 0xc0000153) ∷
    (codes "STATUS_LOGON_NOT_GRANTED", 0xc0000155) ∷
    (codes "STATUS_LOGON_TYPE_NOT_GRANTED", 0xc000015b) ∷
    (codes "STATUS_TRANSACTION_TIMED_OUT", 0xc0000210) ∷
    (codes "STATUS_PASSWORD_MUST_CHANGE", 0xc0000224) ∷
    (codes "STATUS_ACCOUNT_LOCKED_OUT", 0xc0000234) ∷
    (codes "STATUS_INSUFFICIENT_LOGON_INFO", 0xc0000250) ∷
    (codes "STATUS_SMARTCARD_LOGON_REQUIRED", 0xc00002fa) ∷
    (codes "STATUS_CTX_LOGON_DISABLED", 0xc00a0037) ∷
    []

-- the name of a number in a table, which has each number once
abbrev pub name_in : List (List ℕ × ℕ) → ℕ → Option (List ℕ)
name_in [] number = None
name_in (row ∷ rows) number = if number == row.1 then Some row.0 else name_in rows number

-- the name of a code, if it has one
abbrev pub status_name : ℕ → Option (List ℕ)
status_name number = name_in status_codes number

-- `0x` and the digits of a number, lower-case and without leading zeros
abbrev pub hex_text : ℕ → List ℕ
hex_text number = codes "0x" ++ digits 16 false number

-- how a code is displayed: after its name, or else after the words `NSTATUS code`
abbrev pub shown_after : Option (List ℕ) → ℕ → List ℕ
shown_after (Some name) number = name ++ codes " [" ++ hex_text number ++ codes "]"
shown_after None number = codes "NSTATUS code " ++ hex_text number

abbrev pub status_text : ℕ → List ℕ
status_text number = shown_after (status_name number) number

-- how a code is displayed to programmers
abbrev pub status_debug_text : ℕ → List ℕ
status_debug_text number = codes "NStatusCode(" ++ hex_text number ++ codes ")"
