-- What a KDC's reply means.
use Rattle.std.specs.Prelude.{◌==◌, ℕ, List, [], ◌∷◌, codes, Option, None, Some, Result, Ok, Err}
use Rattle.std.specs.Prelude.{if◌then◌else◌}
use Rattle.sspi_types.specs.declared.error_kind.ErrorKind.{ErrorKind}
use Rattle.sspi_types.specs.declared.error_kind.ErrorKind.TheVariants as kinds
use Rattle.sspi_mech.specs.declared.step.Reply.{Reply}
use Rattle.sspi_mech.specs.declared.step.Reply.TheVariants.{Answered, Failed}
use Rattle.sspi_mech.specs.Named.{after_letters, read_block}

-- the codes of a KDC's error
abbrev pub kind_of_code : ℕ → ErrorKind
kind_of_code code =
    if code == 1 then kinds.TimeSkew
    else if code == 2 then kinds.NoAuthenticatingAuthority
    else if code == 3 then kinds.CertificateUnknown
    else if code == 4 then kinds.UnknownCredentials
    else if code == 5 then kinds.LogonDenied
    else kinds.InvalidToken

-- an error has a code and nothing else; anything that is neither an error nor the reply that was
-- asked for is malformed
abbrev pub kind_in : Option (List ℕ) → ErrorKind
kind_in None = kinds.InvalidToken
kind_in (Some []) = kinds.InvalidToken
kind_in (Some (code ∷ [])) = kind_of_code code
kind_in (Some (code ∷ more ∷ rest)) = kinds.InvalidToken

abbrev pub granted_or : Option (List ℕ) → ErrorKind → Result (List ℕ) ErrorKind
granted_or None kind = Err kind
granted_or (Some key) kind = Ok key

-- the key in a reply that begins with these letters, or why there is none
abbrev pub granted : List ℕ → Reply → Result (List ℕ) ErrorKind
granted letters (Answered reply) = granted_or (read_block letters reply)
    (kind_in (after_letters (codes "KE") reply))
granted letters Failed = Err kinds.NoAuthenticatingAuthority

-- the key that a KDC gives for a name, and the one that it gives for that key and a ticket
abbrev pub first_key_in : Reply → Result (List ℕ) ErrorKind
first_key_in reply = granted (codes "KB") reply

abbrev pub session_key_in : Reply → Result (List ℕ) ErrorKind
session_key_in reply = granted (codes "KS") reply
